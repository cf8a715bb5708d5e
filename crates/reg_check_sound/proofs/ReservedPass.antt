-- The reserved texts of a sound registry pass.
use Rattle.reg_check_sound.proofs.Common.{◌≡◌, [], ◌∷◌, ◌∙◌, AllRows, and_from, and_parts, ap, arith, by_column, bytes_eq, bytes_same, heads, IdAssignment, in_all, in_any, in_map, in_permuted, IsIn, IsPermutation, length, List, list_all, map, map_in, maps_twice, not, refl, Registry, shows, subst, sym, Text, Trees, true, words_are, ℕ}
use Rattle.std.specs.Prelude.{◌&&◌, drop, nat_le, nat_lt, string_bytes}
use Rattle.std.specs.Char.{is_ascii_alphabetic}
use Rattle.std.specs.declared.alloc.Global.{Global}
use Rattle.std.specs.declared.string.String.{String}
use Rattle.std.proofs.lemmas.List.{length-map}
use Rattle.std.proofs.lemmas.List.Sorted.{IsPermutation-map, IsPermutation-sym, IsPermutation-trans}
use Rattle.reg_names.specs.Names.{canon, canon_byte, is_name, is_name_byte}
use Rattle.reg_model.proofs.Canons.{canon-canon}
use Rattle.reg_tables_sql.specs.Reserved.{columns_of_text, reserved_columns}
use Rattle.reg_audit.specs.Checks.{is_reserved, reserved_pass}
use Rattle.reg_check_sound.proofs.Shown.{one_of_each, shown_permutes}
use Rattle.reg_check_sound.proofs.Standing.{Standing}

byte-canon : (b : ℕ) → is_name_byte b ≡ true → is_name_byte (canon_byte b) ≡ true
byte-canon b e = grind arith

letter-canon : (b : ℕ) → is_ascii_alphabetic b ≡ true → is_ascii_alphabetic (canon_byte b) ≡ true
letter-canon b e = grind arith

all-canon : (t : Text) → list_all is_name_byte t ≡ true → list_all is_name_byte (canon t) ≡ true
all-canon [] e = refl
all-canon (b ∷ t) e = and_from _ _ (byte-canon b (and_parts _ _ e).0) (all-canon t (and_parts _ _ e).1)

-- the canonical text of a name is a name
is_name-canon : (t : Text) → is_name t ≡ true → is_name (canon t) ≡ true
is_name-canon [] e = e
is_name-canon (b ∷ t) e =
    let size = and_parts (nat_lt 0 (length (b ∷ t)) && nat_le (length (b ∷ t)) 64) _ e in
    let first = and_parts (is_ascii_alphabetic b) _ size.1 in
    rw (length-map t canon_byte) (and_from _ _ size.0 (and_from _ _ (letter-canon b first.0) (all-canon (b ∷ t) first.1)))

module _ (it : AllRows) (db : Trees) (ids : IdAssignment) (s : Registry) (h : Standing it db ids s) where
  abbrev list : List (String Global)
  list = it.reserved.items

  reserved_listed : IsPermutation (map reserved_columns h.holds.stands.reserved.texts) (map columns_of_text list)
  reserved_listed =
      let stands = h.holds.stands.reserved in
      let show = shows (0 ∷ []) in
      let kept = IsPermutation-map show (map reserved_columns stands.texts) (map (drop 1) (db 14)) stands.rows in
      let read = subst (λ xs. IsPermutation xs (map columns_of_text list)) (one_of_each (db 14)) (shown_permutes (by_column 1) (db 14) (shows (1 ∷ [])) (map columns_of_text list) h.are.reserved) in
      subst (λ xs. IsPermutation xs (map columns_of_text list)) (maps_twice reserved_columns show stands.texts) (IsPermutation-trans (map show (map reserved_columns stands.texts)) (map show (map (drop 1) (db 14))) (map columns_of_text list) kept read)

  text_right : (x : String Global) → IsIn x list → is_reserved (string_bytes x) ≡ true
  text_right x i =
      let texts = h.holds.stands.reserved.texts in
      let t = string_bytes x in
      let there = in_permuted (map columns_of_text list) (map reserved_columns texts) (columns_of_text x) (IsPermutation-sym (map reserved_columns texts) (map columns_of_text list) reserved_listed) (in_map columns_of_text list x i) in
      let u = map_in reserved_columns texts (columns_of_text x) there in
      let held = h.holds.stands.reserved.same t ∙ in_any (λ u. bytes_eq u t) texts u.0 u.1 (bytes_same u.0 t (words_are (heads u.2))) in
      let good = h.holds.sound.reserved t held in
      let n = good.0.0 in
      let is : canon n ≡ t = good.0.2 in
      let named = ap is_name (sym is) ∙ is_name-canon n good.0.1 in
      let canonical = ap canon (sym is) ∙ canon-canon n ∙ is in
      and_from (is_name t && bytes_eq (canon t) t) _ (and_from (is_name t) _ named (bytes_same (canon t) t canonical)) (ap not good.1)

  pub reserved_pass_so : reserved_pass it ≡ true
  reserved_pass_so = in_all (λ x. is_reserved (string_bytes x)) list text_right
