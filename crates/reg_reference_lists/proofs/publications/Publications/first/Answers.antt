use Rattle.reg_reference_lists.proofs.Words.{◌∙◌, ap, find, collides}
use Rattle.reg_reference_lists.proofs.PublicationViews.{first_view}
use Rattle.reg_reference_lists.proofs.publications.Publications.first.Goals as goal

pub returns-in-Some : goal.returns-in-Some
returns-in-Some c =
    let e = c.in-Some.ensures ∙ ap (λ l. find (λ p. collides p.name c.args.name.now) l) c.as_slice.ensures.value in
    rw (← c.self.view_is) (first_view c.self.inside.list.items c.args.name.now _ e)

pub returns-in-None : goal.returns-in-None
returns-in-None c =
    let e = c.in-None.ensures ∙ ap (λ l. find (λ p. collides p.name c.args.name.now) l) c.as_slice.ensures.value in
    rw (← c.self.view_is) (first_view c.self.inside.list.items c.args.name.now _ e)
