use Rattle.reg_reference_lists.proofs.Words.{◌∙◌, ap, rules, filter_same, Owner, owner_cmp, owner_total, owner_apart, canon, owner_of}
use Rattle.std.specs.Prelude.{map}
use Rattle.std.specs.FinSet as set
use Rattle.reg_reference_lists.proofs.SetViews.{remove_view, owner_agrees}
use Rattle.reg_reference_lists.proofs.owners.Owners.remove.Goals as goal

pub returns : goal.returns
returns c =
    let q : Owner = (canon c.args.name.now, c.args.account) in
    ap (λ l. set.from_list {R = owner_cmp} (map owner_of l)) (filter_same _ _ _ (λ x b f' k. search rules) _ _ c.retain.ensures.filtered)
    ∙ remove_view owner_total owner_apart owner_of q _ (λ m. owner_agrees q (owner_of m)) c.self.inside.list.items
    ∙ ap (λ s. set.remove s q) c.self.view_is
