-- SQL's instr finds a text where it occurs in another, and in that no character has two bytes.
use Rattle.reg_search.proofs.Words.{◌≡◌, ℕ, zero, suc, ◌+◌, ◌<◌, ◌==◌, Bool, true, false, ◌||◌, not, List, [], ◌∷◌, length, take, refl, sym}
use Rattle.reg_search.proofs.Words.{ap, ◌∙◌, arith, list_all, nat_list_eq_equiv, and_parts, is_true, Blob, Text, Instr, canon, is_name}
use Rattle.reg_search.proofs.Words.{occurs}
use Rattle.std.proofs.Common.{◌/◌, if◌then◌else◌}
use Rattle.std.specs.Prelude.{min, pos, unsigned_abs}
use Rattle.std.specs.Char.{to_ascii_lowercase}
use Rattle.std.specs.Ordering.{int_eq}
use Rattle.std.proofs.lemmas.Bool.{ne_eqb}
use Rattle.std.proofs.lemmas.List.Folds.{list_all-map}
use Rattle.std.proofs.lemmas.Str.Ascii.{lowercase_ascii}
use Rattle.sqlite.specs.Ops.{binary}
use Rattle.sqlite_keyed.proofs.KeyedLemmas.{int_eq_apart}
use Rattle.sqlite_sql.specs.Text.{begins_with, is_continuation, place_from}
use Rattle.reg_names.specs.Names.{canon_byte, is_name_byte}
use Rattle.reg_names.proofs.NameFacts.{name_byte_ascii}
use Rattle.reg_model.proofs.Lists.{all_so}

-- the byte begins a character
abbrev pub begins : ℕ → Bool
begins b = not (is_continuation b)

-- a place is not 0
abbrev is_place : ℕ → Bool
is_place n = not (int_eq (pos n) (pos 0))

above : (n : ℕ) → 0 < n → is_place n ≡ true
above n low = ap not (int_eq_apart (pos n) (pos 0) (λ e. let same : n ≡ 0 = ap unsigned_abs e in omega (arith, low, same)))

-- nor is it where it is cut
capped : (n : ℕ) → is_place (min n 9223372036854775807) ≡ is_place n
capped zero = refl
capped (suc n) = above (min (suc n) 9223372036854775807) (omega arith) ∙ sym (above (suc n) (omega arith))

module _ (p : ℕ) (ps : List ℕ) where
  abbrev part : List ℕ
  part = p ∷ ps

  one : (rest : List ℕ) (at : ℕ) (c d : Bool) → c ≡ true → 0 < at → is_place (place_from begins part (at + 1) rest) ≡ occurs part rest
      → is_place (if c then (if d then at else place_from begins part (at + 1) rest) else place_from begins part at rest) ≡ (d || occurs part rest)
  one rest at true true e low h = above at low
  one rest at true false e low h = h
  one rest at false d e low h = absurd cc

  placed : (t : List ℕ) (at : ℕ) → 0 < at → list_all begins t ≡ true → is_place (place_from begins part at t) ≡ occurs part t
  placed [] at low all = refl
  placed (b ∷ rest) at low all =
      let parts = and_parts (begins b) (list_all begins rest) all in
      one rest at (begins b) (begins_with part (b ∷ rest)) parts.0 low (placed rest (at + 1) (omega arith) parts.1)
      ∙ ap (λ d. d || occurs part rest) (nat_list_eq_equiv.symm (take (length part) (b ∷ rest)) part)

-- the empty text occurs in each
everywhere : (t : List ℕ) → occurs [] t ≡ true
everywhere [] = refl
everywhere (b ∷ rest) = refl

pub instr_is : (part t : List ℕ) → list_all begins t ≡ true → is_true (binary Instr (Text t) (Blob part)) ≡ occurs part t
unfolding binary
instr_is [] t all = sym (everywhere t)
instr_is (p ∷ ps) t all =
    ap (λ b. is_place (min (if b then 1 else place_from begins (p ∷ ps) 1 t) 9223372036854775807)) (ne_eqb (length (p ∷ ps)) 0 (λ e. omega (arith, e)))
    ∙ capped (place_from begins (p ∷ ps) 1 t) ∙ placed p ps t 1 (omega arith) all

low_begins : (b : ℕ) → b < 128 → begins b ≡ true
low_begins b low = ap not (ne_eqb (b / 64) 2 (λ e. omega (arith, low, e)))

byte_begins : (b : ℕ) → is_name_byte b ≡ true → begins (canon_byte b) ≡ true
byte_begins b e = split (b == 45)
  where
    split : (t : Bool) → begins (if t then 95 else to_ascii_lowercase b) ≡ true
    split true = refl
    split false = low_begins (to_ascii_lowercase b) (lowercase_ascii b (name_byte_ascii b e))

-- such is the canonical text of a name
pub canon_begins : (n : List ℕ) → is_name n ≡ true → list_all begins (canon n) ≡ true
canon_begins n e = list_all-map begins canon_byte n ∙ all_so is_name_byte (λ b. begins (canon_byte b)) byte_begins n (and_parts _ _ (and_parts _ _ e).1).1
