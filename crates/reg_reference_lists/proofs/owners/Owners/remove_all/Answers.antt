use Rattle.reg_reference_lists.proofs.Words.{◌∙◌, ap, rules, filter_same, owner_cmp, owner_total, owner_apart, canon, owner_by, owner_of}
use Rattle.std.specs.Prelude.{map}
use Rattle.std.specs.FinSet as set
use Rattle.reg_reference_lists.proofs.SetViews.{differ_view, owner_among}
use Rattle.reg_reference_lists.proofs.owners.Owners.remove_all.Goals as goal

pub returns : goal.returns
returns c =
    ap (λ l. set.from_list {R = owner_cmp} (map owner_of l)) (filter_same _ _ _ (λ x b f' k. search rules) _ _ c.retain.ensures.filtered)
    ∙ differ_view owner_total owner_apart owner_of (map (owner_by c.args.name.now) c.args.accounts.now) _ (λ m. owner_among (canon c.args.name.now) c.args.accounts.now (owner_of m)) c.self.inside.list.items
    ∙ ap (λ s. set.difference s (set.from_list (map (owner_by c.args.name.now) c.args.accounts.now))) c.self.view_is
