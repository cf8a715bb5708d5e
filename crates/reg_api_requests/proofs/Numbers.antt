-- A number that is read digit by digit, and cut at 100 after each.
use Rattle.std.proofs.Common.{◌≡◌, ℕ, ◌+◌, ◌*◌, ◌-◌, ◌<◌, ◌≤◌, min, true, List, [], ◌∷◌, length, get_or, drop, refl, sym, ap, ◌∙◌, add-one, arith, drop-cons}
use Rattle.std.proofs.lemmas.Bool.Decides.{nat_tests}
use Rattle.std.specs.Char.{digit_value, is_ascii_digit}
use Rattle.std.specs.List.{list_all}
use Rattle.std.specs.Str.Parse.{digits_value_after}

-- what follows a number counts alike behind another that is the same up to 100
pub same_after : (m n : ℕ) (ds : List ℕ) → min 100 m ≡ min 100 n → min 100 (digits_value_after 10 m ds) ≡ min 100 (digits_value_after 10 n ds)
same_after m n [] e = e
same_after m n (d ∷ ds) e = same_after (m * 10 + digit_value d) (n * 10 + digit_value d) ds (omega arith)

digit_bounds : (d : ℕ) → is_ascii_digit d ≡ true → (48 ≤ d) × (d ≤ 57)
digit_bounds d h = (grind (arith, nat_tests), grind (arith, nat_tests))

digit-value : (d : ℕ) → 48 ≤ d → d ≤ 57 → digit_value d ≡ d - 48
digit-value d low high = grind (arith, nat_tests)

rest_after : (ds : List ℕ) (i : ℕ) → i < length ds → drop i ds ≡ get_or ds i 0 ∷ drop (i + 1) ds
rest_after ds i h = rw add-one (drop-cons ds i 0 h)

-- one digit more: the tests that are left, and the number
pub more_digits : (ds : List ℕ) (i : ℕ) → i < length ds → is_ascii_digit (get_or ds i 0) ≡ true → list_all is_ascii_digit (drop (i + 1) ds) ≡ list_all is_ascii_digit (drop i ds)
more_digits ds i h digit = rw (rest_after ds i h, digit) refl

pub more_number : (ds : List ℕ) (i m n : ℕ) → i < length ds → is_ascii_digit (get_or ds i 0) ≡ true → m ≡ min (10 * n + (get_or ds i 0 - 48)) 100
    → min 100 (digits_value_after 10 m (drop (i + 1) ds)) ≡ min 100 (digits_value_after 10 n (drop i ds))
more_number ds i m n h digit e =
    let d = get_or ds i 0 in
    let bounds = digit_bounds d digit in
    let value = digit-value d bounds.0 bounds.1 in
    same_after m (n * 10 + digit_value d) (drop (i + 1) ds) (omega (arith, value)) ∙ sym (ap (λ l. min 100 (digits_value_after 10 n l)) (rest_after ds i h))
