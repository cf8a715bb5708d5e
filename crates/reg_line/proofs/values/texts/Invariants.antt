use Rattle.reg_line.proofs.Words.{◌≡◌, map, take, string_bytes, string, view}
use Rattle.reg_line.proofs.values.texts.Given as goal

abbrev pub invariant-loop-text : goal.invariant-loop-text
invariant-loop-text l = map view l.values.items ≡ map string (map string_bytes (take l.text-index l.list))
