use Rattle.reg_reference_lists.proofs.Words.{◌∙◌, ap, owner_cmp, owner_total, owner_apart, owner_by, owner_of}
use Rattle.std.specs.Prelude.{map}
use Rattle.std.specs.FinSet as set
use Rattle.reg_reference_lists.proofs.SetViews.{append_view}
use Rattle.reg_reference_lists.proofs.owners.Owners.insert_all.Goals as goal

pub returns-clause-ok : goal.returns-clause-ok
returns-clause-ok c =
    ap (λ l. set.from_list {R = owner_cmp} (map owner_of l)) c.in_ok-append.ensures.items
    ∙ append_view owner_total owner_apart owner_of c.self.inside.list.items c.in_ok-added.added.items (map (owner_by c.args.name.now) c.args.accounts.now) c.in_ok-added.ensures
    ∙ ap (λ s. set.union s (set.from_list (map (owner_by c.args.name.now) c.args.accounts.now))) c.self.view_is
