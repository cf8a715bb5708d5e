use Rattle.reg_reference_lists.proofs.Words.{◌≡◌, ◌∙◌, ap, subst, map, string_bytes, filter, collides, versions_in}
use Rattle.std.specs.Prelude.{IfOk}
use Rattle.reg_reference_lists.proofs.PublicationViews.{versions_view}
use Rattle.reg_reference_lists.proofs.publications.Publications.versions.Goals as goal

pub returns : goal.returns
returns c =
    let e =
    ap (λ l. map (λ p. string_bytes p.version) (filter (λ p. collides p.name c.args.name.now) l)) c.as_slice.ensures.value
    ∙ versions_view c.self.inside.list.items c.args.name.now
    ∙ ap (λ s. map (λ p. p.version) (versions_in s c.args.name.now)) c.self.view_is in
    subst (λ y. IfOk c.version_texts.result (λ v. map (λ t. t.now) v.items ≡ y)) e c.version_texts.ensures
