use Rattle.reg_reference_lists.proofs.Words.{◌∙◌, ap, mark_cmp, mark_total, mark_apart, mark_of}
use Rattle.std.specs.Prelude.{map}
use Rattle.std.specs.FinSet as set
use Rattle.reg_reference_lists.proofs.SetViews.{push_view}
use Rattle.reg_reference_lists.proofs.yanked.Marks.insert.Goals as goal

pub returns-clause-ok : goal.returns-clause-ok
returns-clause-ok c =
    ap (λ l. set.from_list {R = mark_cmp} (map mark_of l)) c.in_ok-push.ensures.items
    ∙ push_view mark_total mark_apart mark_of c.self.inside.list.items _
    ∙ (λ i. set.insert (c.self.view_is i) (c.canon.ensures i, c.in_ok-version.ensures.ok i))
