use Rattle.reg_reference_lists.proofs.Words.{◌∙◌, ap, string_bytes, find, collides, ◌&&◌, bytes_eq}
use Rattle.reg_reference_lists.proofs.PublicationViews.{archive_view}
use Rattle.reg_reference_lists.proofs.publications.Publications.archive.Goals as goal

pub returns-in-Some : goal.returns-in-Some
returns-in-Some c =
    let e = c.in-Some.ensures ∙ ap (λ l. find (λ p. collides p.name c.args.name.now && bytes_eq (string_bytes p.version) c.args.version.now) l) c.as_slice.ensures.value in
    rw (← c.self.view_is, c.as_slice-in-Some.ensures.value) (archive_view c.self.inside.list.items c.args.name.now c.args.version.now _ e)

pub returns-in-None : goal.returns-in-None
returns-in-None c =
    let e = c.in-None.ensures ∙ ap (λ l. find (λ p. collides p.name c.args.name.now && bytes_eq (string_bytes p.version) c.args.version.now) l) c.as_slice.ensures.value in
    rw (← c.self.view_is) (archive_view c.self.inside.list.items c.args.name.now c.args.version.now _ e)
