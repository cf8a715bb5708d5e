-- The crates that are read are those of the registry.
use Rattle.reg_check_sound.proofs.Words.{drop, nat_eq, string_bytes, list_any, nat_cmp, on, IsIn, in_map, map_in, one_passes, crate_columns}
use Rattle.reg_check_sound.proofs.Words.{row_of_crate, apart_by, column_total, each_part, shown_in_turn, crate_of, has_crate}
use Rattle.reg_check_sound.proofs.Common.{◌≡◌, ◌==◌, [], ◌∷◌, ◌∙◌, AllRows, ap, Bool, by_column, canon, Crate, entry_of_crate, eq-eqb, eqb-true, heads, IdAssignment, List, list_any_map, map, maps_twice, Registry, Row, shows, Some, StoredCrate, subst, sym, tails, Trees, true, words_are, ℕ}
use Rattle.std.specs.List.{IsDistinct}
use Rattle.std.specs.List.Sorted.{IsStrictlySortedBy}
use Rattle.reg_tables_represent.proofs.CrateNames.{same_shown}
use Rattle.reg_tables_represent.proofs.Selected.{selected_in_order}
use Rattle.reg_check_sound.proofs.Shown.{pointwise, rows_rise}
use Rattle.reg_check_sound.proofs.Standing.{Standing}
use Rattle.reg_check_sound.proofs.Uniques.{found_of_filter}

abbrev show : Row → Row
show = shows (0 ∷ 2 ∷ 3 ∷ [])

-- what a row shows of the canonical text
same_canon : (e : StoredCrate) (c : Crate) → show (row_of_crate e) ≡ crate_columns c → canon e.1 ≡ string_bytes c.canon
same_canon e c h = words_are (heads (tails h))

module _ (it : AllRows) (db : Trees) (ids : IdAssignment) (s : Registry) (h : Standing it db ids s) where
  abbrev list : List Crate
  list = it.crates.items

  pub crates_listed : map entry_of_crate list ≡ ids.crates
  crates_listed =
      let stands = h.holds.stands.crates in
      let up = rows_rise (λ c. c.0) (λ c. drop 1 (row_of_crate c)) ids.crates stands.up in
      selected_in_order row_of_crate show crate_columns entry_of_crate same_shown (by_column 0) (column_total 0) ids.crates (db 7) list stands.crate_rows up h.are.crates

  canons_listed : map (λ c. string_bytes c.canon) list ≡ map (λ e. canon e.1) ids.crates
  canons_listed =
      let stands = h.holds.stands.crates in
      let up = rows_rise (λ c. c.0) (λ c. drop 1 (row_of_crate c)) ids.crates stands.up in
      let shown = shown_in_turn row_of_crate show (by_column 0) (column_total 0) ids.crates (db 7) (map crate_columns list) stands.crate_rows up h.are.crates in
      each_part (λ e. show (row_of_crate e)) crate_columns (λ e. canon e.1) (λ c. string_bytes c.canon) same_canon ids.crates list shown

  -- a crate that is read is one of them, with its canonical text
  pub crate_in : (c : Crate) → IsIn c list → IsIn (entry_of_crate c) ids.crates
  crate_in c i = subst (IsIn (entry_of_crate c)) crates_listed (in_map entry_of_crate list c i)

  pub canon_is : (c : Crate) → IsIn c list → canon (string_bytes c.name) ≡ string_bytes c.canon
  canon_is c i =
      let same = ap (map (λ (e : StoredCrate). canon e.1)) (sym crates_listed) ∙ maps_twice entry_of_crate (λ e. canon e.1) list in
      sym (pointwise (λ c. string_bytes c.canon) (λ c. canon (string_bytes c.name)) list (canons_listed ∙ same) c i)

  -- and each of them is read
  pub in_list : (e : StoredCrate) → IsIn e ids.crates → (c : Crate) × IsIn c list × (entry_of_crate c ≡ e)
  in_list e i = map_in entry_of_crate list e (subst (IsIn e) (sym crates_listed) i)

  pub has_same : (id : ℕ) → has_crate it id ≡ list_any (λ e. e.0 == id) ids.crates
  has_same id = sym (list_any_map (λ e. e.0 == id) entry_of_crate list) ∙ ap (list_any (λ e. e.0 == id)) crates_listed

  ids_apart : IsDistinct (on (λ (c : Crate). c.id) nat_eq) list
  ids_apart =
      let same = ap (map (λ (e : StoredCrate). e.0)) (sym crates_listed) ∙ maps_twice entry_of_crate (λ e. e.0) list in
      apart_by (λ (c : Crate). c.id) list (subst (IsStrictlySortedBy nat_cmp) same h.holds.stands.crates.up)

  -- a crate is found by its id
  pub found_at : (c : Crate) (id : ℕ) → IsIn c list → c.id ≡ id → crate_of it id ≡ Some c
  found_at c id i same =
      let test : Crate → Bool = λ d. d.id == id in
      let alike = λ (y : Crate) (z : Crate) (j : IsIn y list) (k : IsIn z list) (p : test y ≡ true) (q : test z ≡ true). eq-eqb y.id z.id (eqb-true y.id id p ∙ sym (eqb-true z.id id q)) in
      found_of_filter test list c (one_passes (on (λ (c : Crate). c.id) nat_eq) test list c ids_apart alike i (eq-eqb c.id id same))
