use Rattle.reg_reference_lists.proofs.Words.{◌≡◌, ◌++◌, map, drop, string_bytes, filter, collides}
use Rattle.reg_reference_lists.proofs.publications.version_texts.Given as goal

abbrev pub invariant-loop-publication : goal.invariant-loop-publication
invariant-loop-publication l = map (λ t. t.now) l.texts.items ++ map (λ p. string_bytes p.version) (filter (λ p. collides p.name l.name) (drop l.publication-index l.list)) ≡ map (λ p. string_bytes p.version) (filter (λ p. collides p.name l.name) l.list)
