-- Decimal numbers as `parse` reads them.
use Rattle.std.proofs.Common.{◌≡◌, ◌<◌, ℕ, List, length, true, arith, rules, Option, Some, None, Result, Ok, Err}
use Rattle.std.proofs.lemmas.Bool.Decides.{nat_tests}
use Rattle.std.proofs.lemmas.Str.Parse.{IsNumeralModel, numerals_by_value}
use Rattle.std.specs.Char.{is_ascii_digit}
use Rattle.std.specs.List.{list_all}
use Rattle.std.specs.Result.{OkIff}
use Rattle.std.specs.Str.Parse.{digits_value}
use Rattle.reg_cli_args.specs.Orders.{number_below}

pub own : IsNumeralModel (λ ds. list_all is_ascii_digit ds ≡ true) (digits_value 10)
own = numerals_by_value _ (search rules)

abbrev found : {E : Type 0} → Result ℕ E → Option ℕ
found (Ok n) = Some n
found (Err e) = None

pub number_is : {E : Type 0} (bs : List ℕ) (r : Result ℕ E) (most : ℕ) → list_all is_ascii_digit bs ≡ true
    → OkIff r ((0 < length bs) × (digits_value 10 bs < most)) (digits_value 10 bs) → found r ≡ number_below most bs
number_is bs (Ok n) most digits h = grind (arith, nat_tests)
number_is bs (Err e) most digits h = grind (arith, nat_tests)
