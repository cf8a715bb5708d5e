use Rattle.reg_reference.proofs.Words.{◌≡◌, map, take, hit, registry_of}
use Rattle.reg_reference.specs.Search.{hit_of}
use Rattle.reg_reference.proofs.plain.PlainRegistry.hits.Given as goal

-- the hits so far
abbrev pub invariant-loop-name : goal.invariant-loop-name
invariant-loop-name l = map hit_of l.hits.items ≡ map (λ n. hit (registry_of l.self) n.now) (take l.name-index l.names)
