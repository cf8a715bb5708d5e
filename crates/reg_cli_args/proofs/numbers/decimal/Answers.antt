use Rattle.std.proofs.Common.{◌^◌, sym, ◌∙◌, rules}
use Rattle.std.proofs.lemmas.Str.Parse.{parse_digits}
use Rattle.reg_cli_args.proofs.Decimals.{number_is, own}
use Rattle.reg_cli_args.proofs.numbers.decimal.Goals as goal

pub returns-then-are_digits : goal.returns-then-are_digits
returns-then-are_digits c =
    let digits = sym c.are_digits.ensures ∙ c.if-are_digits.true in
    let is = number_is c.args.text.now c.parse.result (2 ^ 64) digits
    (parse_digits own 64 c.args.text.now c.parse.result c.parse.ensures.value.0 digits) in
    search (rules, is)
