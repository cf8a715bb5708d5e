-- Crate names and hex digits are ASCII, and so UTF-8.
use Rattle.std.proofs.Common.{◌≡◌, ◌<◌, ℕ, zero, suc, true, List, [], ◌∷◌, IsUtf8, arith, refl, nat_lt, slice_index}
use Rattle.std.proofs.lemmas.Bool.{and_parts, and_from}
use Rattle.std.proofs.lemmas.Str.{IsUtf8-from_ascii}
use Rattle.std.specs.List.{list_all}
use Rattle.hex.specs.Hex.{encode_lower, lower_digits}
use Rattle.hex.proofs.HexLemmas.{IsAscii-encode_with}
use borrow.Author.Tests.{ltb-true}
use Rattle.json.proofs.Printed.Utf8.{IsUtf8-are_ascii, are_ascii}
use Rattle.reg_names.specs.Names.{is_name, is_name_byte}

byte_ascii : (b : ℕ) → is_name_byte b ≡ true → nat_lt b 128 ≡ true
byte_ascii b h = grind arith

all_ascii : (t : List ℕ) → list_all is_name_byte t ≡ true → are_ascii t ≡ true
all_ascii [] h = refl
all_ascii (b ∷ t) h = let p = and_parts (is_name_byte b) _ h in and_from _ _ (byte_ascii b p.0) (all_ascii t p.1)

pub name-utf8 : (t : List ℕ) → is_name t ≡ true → IsUtf8 t
name-utf8 t h = IsUtf8-are_ascii t (all_ascii t (and_parts _ _ (and_parts _ _ h).1).1)

at_ascii : (t : List ℕ) (k : ℕ) → are_ascii t ≡ true → slice_index t k < 128
at_ascii [] k h = omega arith
at_ascii (b ∷ t) zero h = ltb-true _ _ (and_parts _ _ h).0
at_ascii (b ∷ t) (suc k) h = at_ascii t k (and_parts (nat_lt b 128) _ h).1

pub hex-utf8 : (digest : List ℕ) → IsUtf8 (encode_lower digest)
hex-utf8 digest = IsUtf8-from_ascii (encode_lower digest) (IsAscii-encode_with lower_digits digest (λ k. at_ascii lower_digits k refl))
