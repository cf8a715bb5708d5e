-- A number in a column.
use Rattle.std.proofs.Common.{◌≡◌, ℕ, List, zero, suc, ◌-◌, ◌^◌, ◌++◌, [], ◌∷◌, replicate, refl, ap, arith, length, false}
use Rattle.std.proofs.Math.Nat.{sub_self, sub-zero, zero-sub}
use Rattle.std.proofs.lemmas.List.{append-nil}
use Rattle.std.proofs.lemmas.Str.{encode_ascii}
use Rattle.std.specs.Prelude.{encode_utf8}
use Rattle.std.specs.List.{repeat}
use Rattle.std.specs.Fmt.{format_spec, decimal, styled_decimal, is_bare_number, padded_integral, char_count}
use Rattle.reg_model.specs.Reports.{right}

repeat_one : (n b : ℕ) → repeat n (b ∷ []) ≡ replicate n b
repeat_one zero b = refl
repeat_one (suc n) b = ap (λ bs. b ∷ bs) (repeat_one n b)

spaces : (n : ℕ) → repeat n (encode_utf8 32) ≡ replicate n 32
spaces n = rw (encode_ascii 32 (omega arith)) (repeat_one n 32)

padded_number : (width : ℕ) (digits : List ℕ)
    → padded_integral (format_spec 32 3 0 width (2 ^ 64 - 1)) false [] digits ≡ right width digits
unfolding padded_integral char_count
padded_number width digits = simp (append-nil, sub_self, sub-zero)
    (ap (λ bs. bs ++ digits) (spaces (width - length digits)))

-- what `{n:>width$}` writes
pub number_column : (s : _) (width n : ℕ) → s ≡ format_spec 32 3 0 width (2 ^ 64 - 1)
    → styled_decimal s n ≡ right width (decimal n)
number_column s zero n e = rw e (simp zero-sub)
number_column s (suc w) n e = rw e (rw bare (padded_number (suc w) (decimal n))) where
  bare : is_bare_number (format_spec 32 3 0 (suc w) (2 ^ 64 - 1)) ≡ false
  bare = grind arith
