use Rattle.reg_reference_lists.proofs.Words.{◌≡◌, ◌∙◌, ap, subst, map, filter, collides, publication_of, versions_in, canon, entry_view}
use Rattle.reg_reference_lists.proofs.Words.{marked_in}
use Rattle.std.specs.Prelude.{IfOk}
use Rattle.reg_reference_lists.proofs.PublicationViews.{entries_view}
use Rattle.reg_reference_lists.proofs.publications.Publications.entries.Goals as goal

pub returns : goal.returns
returns c =
    let e =
    ap (λ l. map (λ p. marked_in c.args.yanked.now (canon c.args.name.now) (publication_of p)) (filter (λ p. collides p.name c.args.name.now) l)) c.as_slice.ensures.value
    ∙ entries_view c.self.inside.list.items c.args.name.now c.args.yanked.now
    ∙ ap (λ s. map (marked_in c.args.yanked.now (canon c.args.name.now)) (versions_in s c.args.name.now)) c.self.view_is in
    subst (λ y. IfOk c.entry_list.result (λ v. map entry_view v.items ≡ y)) e c.entry_list.ensures
