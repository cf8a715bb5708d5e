-- What each byte of a name is, and that a name in lower case is a name.
use Rattle.reg_names.proofs.Words.{◌≡◌, ◌<◌, ◌&&◌, ℕ, suc, true, List, [], ◌∷◌, length, Some, arith, refl, nat_lt, and_parts, and_from}
use Rattle.reg_names.proofs.Words.{length-map, list_all, IsAscii, to_ascii_lowercase, canon, canon_byte, is_name_byte, is_name, lower}
use Rattle.reg_names.proofs.Words.{name_of}
use Rattle.std.proofs.Common.{zero, get_or, nat_le}
use Rattle.std.proofs.lemmas.Str.{IsUtf8-from_ascii}
use Rattle.std.specs.Str.{IsUtf8}
use Rattle.std.specs.Char.{is_ascii_alphabetic}

pub name_byte_ascii : (b : ℕ) → is_name_byte b ≡ true → b < 128
name_byte_ascii b e = grind arith

all_ascii : (t : List ℕ) (k : ℕ) → list_all is_name_byte t ≡ true → get_or t k 0 < 128
all_ascii [] k e = omega arith
all_ascii (b ∷ t) zero e = name_byte_ascii b (and_parts _ _ e).0
all_ascii (b ∷ t) (suc k) e = all_ascii t k (and_parts _ _ e).1

pub name_ascii : (t : List ℕ) → is_name t ≡ true → IsAscii t
name_ascii t e = λ k. all_ascii t k (and_parts _ _ (and_parts _ _ e).1).1

pub some_bytes : (t : List ℕ) → is_name t ≡ true → 0 < length t
some_bytes [] e = absurd (cc e)
some_bytes (b ∷ t) e = omega arith

byte-lower : (b : ℕ) → is_name_byte b ≡ true → is_name_byte (to_ascii_lowercase b) ≡ true
byte-lower b e = grind arith

letter-lower : (b : ℕ) → is_ascii_alphabetic b ≡ true → is_ascii_alphabetic (to_ascii_lowercase b) ≡ true
letter-lower b e = grind arith

all-lower : (t : List ℕ) → list_all is_name_byte t ≡ true → list_all is_name_byte (lower t) ≡ true
all-lower [] e = refl
all-lower (b ∷ t) e = and_from _ _ (byte-lower b (and_parts _ _ e).0) (all-lower t (and_parts _ _ e).1)

pub is_name-lower : (t : List ℕ) → is_name t ≡ true → is_name (lower t) ≡ true
is_name-lower [] e = e
is_name-lower (b ∷ t) e =
    let size = and_parts (nat_lt 0 (length (b ∷ t)) && nat_le (length (b ∷ t)) 64) _ e in
    let first = and_parts (is_ascii_alphabetic b) _ size.1 in
    rw (length-map t to_ascii_lowercase) (and_from _ _ size.0 (and_from _ _ (letter-lower b first.0) (all-lower (b ∷ t) first.1)))

pub name_of-name : (t : List ℕ) → is_name t ≡ true → name_of t ≡ Some t
name_of-name t e = rw e refl

pub name_utf8 : (t : List ℕ) → is_name t ≡ true → IsUtf8 t
name_utf8 t e = IsUtf8-from_ascii t (name_ascii t e)

lower_once : (b : ℕ) → to_ascii_lowercase (to_ascii_lowercase b) ≡ to_ascii_lowercase b
lower_once b = grind arith

canon_lower_byte : (b : ℕ) → canon_byte (to_ascii_lowercase b) ≡ canon_byte b
canon_lower_byte b = grind arith

pub lower-lower : (t : List ℕ) → lower (lower t) ≡ lower t
lower-lower [] = refl
lower-lower (b ∷ t) = λ i. lower_once b i ∷ lower-lower t i

pub canon-lower : (t : List ℕ) → canon (lower t) ≡ canon t
canon-lower [] = refl
canon-lower (b ∷ t) = λ i. canon_lower_byte b i ∷ canon-lower t i
