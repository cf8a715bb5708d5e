use Rattle.std.proofs.Common.{arith}
use Rattle.reg_body.proofs.FrameFacts.{cut_digits, after_digits}
use Rattle.reg_body.proofs.frame.take_part.Goals as goal

pub returns-in_err-digits : goal.returns-in_err-digits
returns-in_err-digits c =
    rw c.from_residual.ensures (cut_digits c.args.bytes.now c.in_err-digits.ensures.cases (λ i. omega (arith, c.type_inv.bytes i)))

pub returns : goal.returns
returns c =
    after_digits c.args.bytes.now _ _ c.from_le_bytes-len.result c.split_at_checked.result (λ i. omega (arith, c.type_inv.bytes i))
    c.in_ok-digits.ensures.cases.0 c.in_ok-digits.ensures.cases.1 c.in_ok-digits.ensures.cases.2
    c.from_le_bytes-len.ensures c.split_at_checked.ensures.cases
