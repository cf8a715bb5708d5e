use Rattle.std.proofs.Common.{◌≡◌, string_bytes, map, take}
use Rattle.reg_names.specs.Names.{canon_byte}
use Rattle.reg_names.proofs.range.canon_string.Given as goal

abbrev pub invariant-loop-b : goal.invariant-loop-b
invariant-loop-b l = string_bytes l.canonical ≡ map canon_byte (take l.b-index l.text)
