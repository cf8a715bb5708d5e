-- The base, and the reserved names.
use Rattle.reg_check_sound.proofs.Words.{is_eq-slice_cmp, Second, about_columns, reserved_columns, registry_from, IsWhole}
use Rattle.reg_check_sound.proofs.Common.{◌≡◌, [], ◌∷◌, ◌∙◌, all_weaker, AllRows, ap, Bool, by_column, bytes_eq, bytes_same, drop, false, IsPermutation, List, map, maps_twice, nat_list_cmp_total, refl, Row, same_bytes, shows, string_bytes, subst, sym, Text, Trees, true}
use Rattle.std.specs.FinSet as finset
use Rattle.reg_model.proofs.Lists.{any_same}
use Rattle.reg_tables_represent.specs.Stands.{StandReserved}
use Rattle.reg_check_sound.proofs.Passing.{Passing}
use Rattle.reg_check_sound.proofs.Shapes.{rows_from, each_is}

pub flips : (a b : Text) → bytes_eq a b ≡ bytes_eq b a
flips a b = go (bytes_eq a b) refl
  where
    go : (r : Bool) → bytes_eq a b ≡ r → r ≡ bytes_eq b a
    go true e = sym (bytes_same b a (sym (same_bytes a b e)))
    go false e = other (bytes_eq b a) refl
      where
        other : (r : Bool) → bytes_eq b a ≡ r → false ≡ r
        other true f = sym e ∙ bytes_same a b (sym (same_bytes b a f))
        other false f = refl

pub told_base : (r : Row) → IsWhole (0 ∷ 1 ∷ 2 ∷ []) r → drop 1 r ≡ shows (1 ∷ 2 ∷ []) r
told_base r h = sym (ap (drop 1) h)

told : (r : Row) → IsWhole (0 ∷ 1 ∷ []) r → shows (1 ∷ []) r ≡ drop 1 r
told r h = ap (drop 1) h

module _ (it : AllRows) (db : Trees) (h : Passing it db) where
  pub base_stands : map (drop 1) (db 0) ≡ about_columns Second (string_bytes it.base) ∷ []
  base_stands = each_is (drop 1) (shows (1 ∷ 2 ∷ [])) (db 0) (all_weaker (IsWhole (0 ∷ 1 ∷ 2 ∷ [])) (λ r. drop 1 r ≡ shows (1 ∷ 2 ∷ []) r) told_base (db 0) h.rules.columns.about) ∙ h.are.base

  pub reserved_stand : StandReserved (registry_from it db).reserved db
  reserved_stand =
      let list = it.reserved.items in
      let texts : List Text = map (λ s. string_bytes s) list in
      let whole = all_weaker (IsWhole (0 ∷ 1 ∷ [])) (λ r. shows (1 ∷ []) r ≡ drop 1 r) told (db 14) h.rules.columns.reserved in
      let rows = rows_from (shows (1 ∷ [])) (λ r. r) (drop 1) (λ s. reserved_columns (string_bytes s)) (by_column 1) (db 14) list whole h.are.reserved in
      record {
        texts = texts;
        rows = subst (λ xs. IsPermutation xs (map (drop 1) (db 14))) (sym (maps_twice (λ s. string_bytes s) reserved_columns list)) rows;
        apart = h.are.apart.reserved;
        same = λ c. finset.contains-from_list nat_list_cmp_total texts c ∙ any_same _ _ (λ t. is_eq-slice_cmp c t ∙ flips c t) texts;
      }
