use Rattle.reg_reference_lists.proofs.Words.{sym, collides, publication_of, list_any_map}
use Rattle.reg_reference_lists.proofs.publications.Publications.exists.Goals as goal

pub returns : goal.returns
returns c = rw (← c.self.view_is, c.has_crate.ensures, c.as_slice.ensures.value) (sym (list_any_map (λ p. collides p.name c.args.name.now) publication_of c.self.inside.list.items))
