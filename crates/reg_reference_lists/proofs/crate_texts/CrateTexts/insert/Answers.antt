use Rattle.reg_reference_lists.proofs.Words.{◌∙◌, ap, nat_list_cmp_total, text_cmp, text_apart}
use Rattle.std.specs.FinSet as set
use Rattle.reg_reference_lists.proofs.crate_texts.CrateTexts.insert.Goals as goal

pub returns-clause-ok : goal.returns-clause-ok
returns-clause-ok c =
    ap (λ l. set.from_list {R = text_cmp} l) c.in_ok-push.ensures.items
    ∙ set.from_list_push nat_list_cmp_total text_apart c.self.inside.list.items _
    ∙ (λ i. set.insert (c.self.view_is i) (c.canon.ensures i))
