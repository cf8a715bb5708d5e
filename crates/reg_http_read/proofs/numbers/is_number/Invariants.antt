use Rattle.reg_http_read.proofs.Common.{◌≡◌, take, true, is_ascii_digit}
use Rattle.std.specs.List.{list_all}
use Rattle.reg_http_read.proofs.numbers.is_number.Given as goal

abbrev pub invariant-loop-b : goal.invariant-loop-b
invariant-loop-b l = list_all is_ascii_digit (take l.b-index l.text) ≡ true
