use Rattle.reg_reference_lists.proofs.Words.{◌≡◌, ◌++◌, map, drop, filter, collides}
use Rattle.reg_reference_lists.proofs.publications.publications_of.Given as goal

abbrev pub invariant-loop-publication : goal.invariant-loop-publication
invariant-loop-publication l = map (λ p. p.now) l.publications.items ++ filter (λ p. collides p.name l.name) (drop l.publication-index l.list) ≡ filter (λ p. collides p.name l.name) l.list
