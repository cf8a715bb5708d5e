use Rattle.reg_reference_lists.proofs.Words.{◌∙◌, ap, owner_cmp, owner_total, owner_apart, owner_of}
use Rattle.std.specs.Prelude.{map}
use Rattle.std.specs.FinSet as set
use Rattle.reg_reference_lists.proofs.SetViews.{push_view}
use Rattle.reg_reference_lists.proofs.owners.Owners.insert.Goals as goal

pub returns-clause-ok : goal.returns-clause-ok
returns-clause-ok c =
    ap (λ l. set.from_list {R = owner_cmp} (map owner_of l)) c.in_ok-push.ensures.items
    ∙ push_view owner_total owner_apart owner_of c.self.inside.list.items _
    ∙ (λ i. set.insert (c.self.view_is i) (c.canon.ensures i, c.args.account))
