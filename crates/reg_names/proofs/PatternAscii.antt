-- The texts of patterns are ASCII.
use Rattle.reg_names.proofs.Words.{◌≡◌, ◌==◌, ◌||◌, ℕ, Bool, true, false, List, [], ◌∷◌, length, cond, sym, ap, ◌∙◌, arith, IsAscii}
use Rattle.reg_names.proofs.Words.{is_name, has_star, is_pattern, prefix_of}
use Rattle.reg_names.proofs.NameFacts.{name_ascii}

some : (b : ℕ) (t : List ℕ) → (length (b ∷ t) == 0) ≡ false
some b t = grind arith

none_or_name : (t : List ℕ) → (length t == 0 || is_name t) ≡ true → IsAscii t
none_or_name [] h = λ k. omega arith
none_or_name (b ∷ t) h = name_ascii (b ∷ t) (ap (λ none. none || is_name (b ∷ t)) (sym (some b t)) ∙ h)

pub prefix_ascii : (p : List ℕ) → is_pattern p ≡ true → has_star p ≡ true → IsAscii (prefix_of p)
prefix_ascii p ok star = by (has_star p) star ok
  where
    by : (b : Bool) → b ≡ true → cond b (length (prefix_of p) == 0 || is_name (prefix_of p)) (is_name p) ≡ true → IsAscii (prefix_of p)
    by true e h = none_or_name (prefix_of p) h
    by false e h = absurd (cc)

pub plain_ascii : (p : List ℕ) → is_pattern p ≡ true → has_star p ≡ false → IsAscii p
plain_ascii p ok plain = by (has_star p) plain ok
  where
    by : (b : Bool) → b ≡ false → cond b (length (prefix_of p) == 0 || is_name (prefix_of p)) (is_name p) ≡ true → IsAscii p
    by true e h = absurd (cc)
    by false e h = name_ascii p h
