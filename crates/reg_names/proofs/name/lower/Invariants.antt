use Rattle.reg_names.proofs.Words.{◌≡◌, map, take, to_ascii_lowercase}
use Rattle.reg_names.proofs.name.lower.Given as goal

abbrev pub invariant-loop-b : goal.invariant-loop-b
invariant-loop-b l = l.text.bytes ≡ map to_ascii_lowercase (take l.b-index l.b-items)
