use Rattle.std.proofs.Common.{◌≡◌, ◌+◌, ◌*◌, ◌<◌, ◌∙◌, min, true, sym, ap, arith, length, get_or}
use Rattle.std.specs.Char.{is_ascii_digit}
use Rattle.reg_api_requests.proofs.Numbers.{more_digits, more_number}
use Rattle.reg_api_requests.proofs.search.number.Goals as goal

pub loop-digit-preserved : goal.loop-digit-preserved
loop-digit-preserved c =
    let ds = c.args.digits.now in
    let i = c.loop-digit.digit-index in
    let h : i < length ds = omega arith in
    let digit : is_ascii_digit (get_or ds i 0) ≡ true = sym c.is_ascii_digit.ensures.value ∙ c.if-not-is_ascii_digit.false in
    let next = c.min-number.ensures ∙ ap (λ e. min (10 * c.loop-digit.number + e) 100) c.from.ensures in
    record {
      small = omega arith;
      digits = more_digits ds i h digit ∙ c.loop-digit.invariant.digits;
      same = more_number ds i c.min-number.result c.loop-digit.number h digit next ∙ c.loop-digit.invariant.same;
    }
