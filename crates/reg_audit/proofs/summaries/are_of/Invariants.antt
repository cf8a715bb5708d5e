use Rattle.std.proofs.Common.{◌≡◌, map, take}
use Rattle.reg_audit.proofs.summaries.are_of.Given as goal

abbrev pub invariant-loop-index : goal.invariant-loop-index
invariant-loop-index l = map (λ s. s.crate_id) (take l.index l.summaries) ≡ map (λ c. c.id) (take l.index l.crates)
