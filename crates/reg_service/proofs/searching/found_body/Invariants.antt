use Rattle.reg_service.proofs.Words.{◌≡◌, map, take, hit_of}
use Rattle.reg_service.proofs.searching.found_body.Given as goal

-- the crates so far are in the body
abbrev pub invariant-loop-hit : goal.invariant-loop-hit
invariant-loop-hit l = l.body ≡ map hit_of (take l.hit-index l.found.crates.items)
