-- Crates that pass: their rows, their ids and their names.
use Rattle.reg_check_sound.proofs.Words.{◌≡◌, ◌==◌, inl, inr, ℕ, pos, List, [], ◌∷◌, map, Bool, true, false, Option, Some, refl, sym, ap, ap₂}
use Rattle.reg_check_sound.proofs.Words.{subst, eqb-true, ◌∙◌, cond, drop, string_bytes, find, IsPermutation, nat_cmp, on, Null, Int, Text}
use Rattle.reg_check_sound.proofs.Words.{IsIn, map_same, one_of, one_passes, crate_columns, row_of_crate, same_text, crate_of, name_from}
use Rattle.reg_check_sound.proofs.Words.{spelling, IsKeyed}
use Rattle.std.specs.List.{IsDistinct}
use Rattle.std.specs.List.Sorted.{IsStrictlySortedBy}
use Rattle.reg_check_sound.proofs.Common.{all_weaker, AllRows, by_column, bytes_eq, bytes_same, canon, column, Crate, entry_of_crate, eq-eqb, maps_twice, Row, same_number, shows, Trees}
use Rattle.reg_check_sound.proofs.Passing.{Passing, crate_is}
use Rattle.reg_check_sound.proofs.Plain.{flips}
use Rattle.reg_check_sound.proofs.Rising.{listed_rise}
use Rattle.reg_check_sound.proofs.Shapes.{with_null, whole_rows}
use Rattle.reg_check_sound.proofs.Uniques.{own_so, unique_so, distinct_map, distinct_on, found_of_filter}

pub told_crate : (r : Row) → IsKeyed (0 ∷ 1 ∷ 2 ∷ 3 ∷ []) r → with_null (shows (0 ∷ 2 ∷ 3 ∷ []) r) ≡ r
told_crate r h = (λ i. column r 0 ∷ sym h.1 i ∷ column r 2 ∷ column r 3 ∷ []) ∙ h.0

pub found_in : (p : Crate → Bool) (xs : List Crate) (x : Crate) → find p xs ≡ Some x → IsIn x xs × (p x ≡ true)
found_in p [] x h = absurd cc
found_in p (y ∷ ys) x h = split (p y) refl h (found_in p ys x)
  where
    same : {a b : Crate} → ◌≡◌ {A = Option Crate} (Some a) (Some b) → a ≡ b
    same e = cc

    split : (b : Bool) → p y ≡ b → cond b (Some y) (find p ys) ≡ Some x → (find p ys ≡ Some x → IsIn x ys × (p x ≡ true)) → IsIn x (y ∷ ys) × (p x ≡ true)
    split true passes e rest = (inl (same e), ap p (sym (same e)) ∙ passes)
    split false fails e rest = let r = rest e in (inr r.0, r.1)

module _ (it : AllRows) (db : Trees) (h : Passing it db) where
  abbrev list : List Crate
  list = it.crates.items

  abbrev row : Crate → Row
  row c = with_null (crate_columns c)

  rows_of_crates : IsPermutation (map row list) (db 7)
  rows_of_crates =
      let show = shows (0 ∷ 2 ∷ 3 ∷ []) in
      whole_rows show with_null crate_columns (by_column 0) (db 7) list (all_weaker (IsKeyed (0 ∷ 1 ∷ 2 ∷ 3 ∷ [])) (λ r. with_null (show r) ≡ r) told_crate (db 7) h.rules.columns.crates) h.are.crates

  crate_ids_apart : IsDistinct (λ c d. c.id == d.id) list
  crate_ids_apart = own_so row list (db 7) rows_of_crates (λ c d. c.id == d.id) (λ c d. same_number c.id d.id) h.are.apart.crates

  canons_apart : IsDistinct (λ c d. bytes_eq (string_bytes c.canon) (string_bytes d.canon)) list
  canons_apart = unique_so row list (db 7) rows_of_crates 2 (λ c d. bytes_eq (string_bytes c.canon) (string_bytes d.canon)) (λ c d. same_text (string_bytes c.canon) (string_bytes d.canon)) h.rules.uniques.canons

  pub crates_rise : IsStrictlySortedBy nat_cmp (map (λ c. c.id) list)
  crates_rise = listed_rise (λ c. c.id) (λ c. drop 1 (crate_columns c)) (2 ∷ 3 ∷ []) (db 7) list h.are.crates crate_ids_apart

  -- the crate with an id is the one that is found
  pub crate_found : (c : Crate) → IsIn c list → crate_of it c.id ≡ Some c
  crate_found c i =
      let test : Crate → Bool = λ d. d.id == c.id in
      let alike = λ (y : Crate) (z : Crate) (j : IsIn y list) (k : IsIn z list) (p : test y ≡ true) (q : test z ≡ true). eq-eqb y.id z.id (eqb-true y.id c.id p ∙ sym (eqb-true z.id c.id q)) in
      found_of_filter test list c (one_passes (λ c d. c.id == d.id) test list c crate_ids_apart alike i (eq-eqb c.id c.id refl))

  pub name_of : (c : Crate) (id : ℕ) → IsIn c list → c.id ≡ id → name_from it id ≡ string_bytes c.name
  name_of c id i same = ap (name_from it) (sym same) ∙ ap spelling (crate_found c i)

  -- crates with one canonical text are one
  pub one_crate : (c d : Crate) → IsIn c list → IsIn d list → canon (string_bytes c.name) ≡ canon (string_bytes d.name) → c ≡ d
  one_crate c d i j same =
      let texts : string_bytes c.canon ≡ string_bytes d.canon = sym (crate_is it db h c i).canon_is ∙ same ∙ (crate_is it db h d j).canon_is in
      one_of (λ c d. bytes_eq (string_bytes c.canon) (string_bytes d.canon)) (λ c d. flips (string_bytes c.canon) (string_bytes d.canon)) list c d canons_apart i j (bytes_same (string_bytes c.canon) (string_bytes d.canon) texts)

  pub crate_rows : IsPermutation (map row_of_crate (map entry_of_crate list)) (db 7)
  crate_rows =
      let same = map_same row (λ c. row_of_crate (entry_of_crate c)) list (λ c i. λ j. Int (pos c.id) ∷ Null ∷ Text (sym (crate_is it db h c i).canon_is j) ∷ Text (string_bytes c.name) ∷ []) in
      subst (λ xs. IsPermutation xs (db 7)) (same ∙ sym (maps_twice entry_of_crate row_of_crate list)) rows_of_crates

  pub canons_so : IsDistinct (on (λ c. canon c.1) bytes_eq) (map entry_of_crate list)
  canons_so =
      let by_text = λ (c : Crate) (d : Crate). bytes_eq (string_bytes c.canon) (string_bytes d.canon) in
      let by_name = λ (c : Crate) (d : Crate). bytes_eq (canon (string_bytes c.name)) (canon (string_bytes d.name)) in
      let same = λ (c : Crate) (d : Crate) (i : IsIn c list) (j : IsIn d list). ap₂ bytes_eq (sym (crate_is it db h c i).canon_is) (sym (crate_is it db h d j).canon_is) in
      distinct_map (on (λ c. canon c.1) bytes_eq) entry_of_crate list (distinct_on by_text by_name list same canons_apart)

  pub up : IsStrictlySortedBy nat_cmp (map (λ c. c.0) (map entry_of_crate list))
  up = subst (IsStrictlySortedBy nat_cmp) (sym (maps_twice entry_of_crate (λ c. c.0) list)) crates_rise
