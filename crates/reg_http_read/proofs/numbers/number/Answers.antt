use Rattle.reg_http_read.proofs.Common.{◌∙◌, is_ascii_digit}
use Rattle.std.proofs.lemmas.List.Sums.{AllPass-from_list_all}
use Rattle.reg_http_read.proofs.Digits.{number_more}
use Rattle.reg_http_read.proofs.numbers.number.Goals as goal

pub loop-digit-preserved : goal.loop-digit-preserved
loop-digit-preserved c =
    let digits = AllPass-from_list_all is_ascii_digit c.args.digits.now c.requires in
    let more = number_more c.args.digits.now c.loop-digit.digit-index c.loop-digit.total c.loop-digit-test.true (digits c.loop-digit.digit-index 0 c.loop-digit-test.true) c.loop-digit.invariant in
    c.saturating_add-total.ensures ∙ rw (c.saturating_mul.ensures, c.from.ensures) more
