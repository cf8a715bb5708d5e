use Rattle.reg_audit.proofs.Words.{◌≡◌, ℕ, take, ◌==◌, position_from, nat_cmp, get}
use Rattle.reg_audit.proofs.versions.places_of.Given as goal

abbrev pub invariant-loop-index : goal.invariant-loop-index
invariant-loop-index l = (id : ℕ) → get nat_cmp l.places id ≡ position_from (λ c. c.id == id) 0 (take l.index l.crates)
