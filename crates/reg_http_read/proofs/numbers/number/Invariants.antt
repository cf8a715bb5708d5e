use Rattle.reg_http_read.proofs.Common.{◌≡◌, ◌-◌, ◌^◌, min, take, digits_value}
use Rattle.reg_http_read.proofs.numbers.number.Given as goal

abbrev pub invariant-loop-digit : goal.invariant-loop-digit
invariant-loop-digit l = l.total ≡ min (digits_value 10 (take l.digit-index l.digits)) (2 ^ 64 - 1)
