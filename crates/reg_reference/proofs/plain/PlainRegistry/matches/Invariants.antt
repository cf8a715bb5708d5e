use Rattle.reg_reference.proofs.Words.{◌≡◌, map, take, ◌&&◌, filter, canon, sees, occurs, registry_of}
use Rattle.reg_reference.proofs.plain.PlainRegistry.matches.Given as goal

-- the matches so far
abbrev pub invariant-loop-name : goal.invariant-loop-name
invariant-loop-name l = map (λ n. n.now) l.matching.items ≡ filter (λ n. sees (registry_of l.self) l.viewer n && occurs l.query (canon n)) (map (λ n. n.now) (take l.name-index l.names))
