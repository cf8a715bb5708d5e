use Rattle.reg_reference_lists.proofs.Words.{◌≡◌, ◌++◌, map, drop, filter, canon, entry_view, collides, marked_in, publication_of}
use Rattle.reg_reference_lists.proofs.publications.entry_list.Given as goal

abbrev pub invariant-loop-publication : goal.invariant-loop-publication
invariant-loop-publication l = map entry_view l.entries.items ++ map (λ p. marked_in l.yanked (canon l.name) (publication_of p)) (filter (λ p. collides p.name l.name) (drop l.publication-index l.list)) ≡ map (λ p. marked_in l.yanked (canon l.name) (publication_of p)) (filter (λ p. collides p.name l.name) l.list)
