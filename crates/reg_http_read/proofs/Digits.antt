-- The number that digits write, digit by digit.
use Rattle.std.proofs.Common.{◌≡◌, ℕ, ◌+◌, ◌*◌, ◌-◌, ◌<◌, ◌≤◌, ◌^◌, min, true, List, length, take, get_or, ap, ◌∙◌, arith}
use Rattle.std.proofs.lemmas.Bool.Decides.{nat_tests}
use Rattle.std.proofs.lemmas.List.{take_more}
use Rattle.std.specs.Char.{digit_value, is_ascii_digit}
use Rattle.std.specs.Str.Parse.{digits_value}
use Rattle.httparse.proofs.ChunkLemmas.{digits_value_after_push}

pub digit_is : (d : ℕ) → is_ascii_digit d ≡ true → (48 ≤ d) × (d < 58) × (digit_value d ≡ d - 48)
digit_is d h = grind (arith, nat_tests)

pub number_more : (ds : List ℕ) (i total : ℕ) → i < length ds → is_ascii_digit (get_or ds i 0) ≡ true
    → total ≡ min (digits_value 10 (take i ds)) (2 ^ 64 - 1)
    → min (min (total * 10) (2 ^ 64 - 1) + (get_or ds i 0 - 48)) (2 ^ 64 - 1) ≡ min (digits_value 10 (take (i + 1) ds)) (2 ^ 64 - 1)
number_more ds i total fits digit is =
    let d = digit_is (get_or ds i 0) digit in
    let more : digits_value 10 (take (i + 1) ds) ≡ digits_value 10 (take i ds) * 10 + digit_value (get_or ds i 0) =
    ap (digits_value 10) (take_more ds i 0 fits) ∙ digits_value_after_push 10 0 (take i ds) (get_or ds i 0) in
    rw more (omega (arith, is, d))
