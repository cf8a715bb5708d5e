use Rattle.reg_names.proofs.Words.{◌≡◌, map, take, canon_byte}
use Rattle.reg_names.proofs.canonical.canon.Given as goal

abbrev pub invariant-loop-b : goal.invariant-loop-b
invariant-loop-b l = l.text.bytes ≡ map canon_byte (take l.b-index l.b-items)
