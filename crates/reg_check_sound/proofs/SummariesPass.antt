-- The summaries of a sound registry pass.
use Rattle.reg_check_sound.proofs.Words.{columns_of_summary, Summary, highest_in, length_in, row_of_summary, column_total, each_part}
use Rattle.reg_check_sound.proofs.Words.{shown_in_turn, highest_same, length_same, is_summary, its_versions}
use Rattle.reg_check_sound.proofs.Common.{◌≡◌, ◌==◌, [], ◌∷◌, ◌∙◌, AllRows, and_from, ap, by_column, bytes_eq, bytes_same, drop, entry_of_crate, eq-eqb, heads, IdAssignment, in_all, in_map, IsIn, List, map, map_in, maps_twice, mark_cmp, number_is, Registry, Row, shows, StoredCrate, subst, sym, tails, Trees, true, ℕ}
use Rattle.std.specs.FinSet as finset
use Rattle.reg_tables_represent.specs.Summaries.{highest_of, length_of}
use Rattle.reg_tables_represent.specs.Summaries as stored
use Rattle.reg_audit.specs.Checks.{summaries_pass}
use Rattle.reg_check_sound.proofs.ListedCrates.{crates_listed}
use Rattle.reg_check_sound.proofs.ListedVersions.{its_listed}
use Rattle.reg_check_sound.proofs.Shown.{rows_rise}
use Rattle.reg_check_sound.proofs.Standing.{Standing}

abbrev show : Row → Row
show = shows (0 ∷ 2 ∷ 3 ∷ [])

-- what a row says of a crate: its id, its highest version and the length of its index file
abbrev Told : Type 0
Told = ℕ × ℕ × ℕ

abbrev told : Summary → Told
told m = (m.crate_id, m.highest, m.index_length)

abbrev told_of : IdAssignment → finset.FinSet mark_cmp → StoredCrate → Told
told_of ids yanked c = (c.0, highest_of ids yanked c.0, length_of ids yanked c.0)

same_told : (ids : IdAssignment) (yanked : finset.FinSet mark_cmp) (c : StoredCrate) (m : Summary) → show (row_of_summary ids yanked c) ≡ columns_of_summary m → told_of ids yanked c ≡ told m
same_told ids yanked c m h =
    let id = number_is (heads h) in
    let highest = number_is (heads (tails h)) in
    let long = number_is (heads (tails (tails h))) in
    λ i. (id i, highest i, long i)

module _ (it : AllRows) (db : Trees) (ids : IdAssignment) (s : Registry) (h : Standing it db ids s) where
  abbrev list : List Summary
  list = it.summaries.items

  summaries_listed : map told list ≡ map (told_of ids s.yanked) ids.crates
  summaries_listed =
      let row = row_of_summary ids s.yanked in
      let up = rows_rise (λ c. c.0) (λ c. drop 1 (row c)) ids.crates h.holds.stands.crates.up in
      let shown = shown_in_turn row show (by_column 0) (column_total 0) ids.crates (db 16) (map columns_of_summary list) h.holds.stands.summaries.are up h.are.summaries in
      each_part (λ c. show (row c)) columns_of_summary (told_of ids s.yanked) told (same_told ids s.yanked) ids.crates list shown

  ids_same : map (λ m. m.crate_id) list ≡ map (λ c. c.id) it.crates.items
  ids_same =
      let read = sym (maps_twice told (λ t. t.0) list) ∙ ap (map (λ (t : Told). t.0)) summaries_listed ∙ maps_twice (told_of ids s.yanked) (λ t. t.0) ids.crates in
      read ∙ ap (map (λ (e : StoredCrate). e.0)) (sym (crates_listed it db ids s h)) ∙ maps_twice entry_of_crate (λ e. e.0) it.crates.items

  summary_right : (m : Summary) → IsIn m list → is_summary it m ≡ true
  summary_right m i =
      let c = map_in (told_of ids s.yanked) ids.crates (told m) (subst (IsIn (told m)) summaries_listed (in_map told list m i)) in
      let id = ap (λ (t : Told). t.0) c.2 in
      let its = its_versions it m.crate_id in
      let same = its_listed it db ids s h m.crate_id in
      let highest = ap (λ (t : Told). t.1) (sym c.2) ∙ ap (highest_of ids s.yanked) id ∙ sym (highest_same s.yanked (stored.its_versions ids m.crate_id)) ∙ ap highest_in (sym same) in
      let long = ap (λ (t : Told). t.2) (sym c.2) ∙ ap (length_of ids s.yanked) id ∙ sym (length_same s.yanked (stored.its_versions ids m.crate_id)) ∙ ap length_in (sym same) in
      and_from (m.highest == highest_in its) _ (eq-eqb m.highest (highest_in its) highest) (eq-eqb m.index_length (length_in its) long)

  pub summaries_pass_so : summaries_pass it ≡ true
  summaries_pass_so =
      let found = map (λ (m : Summary). m.crate_id) list in
      let crates = map (λ c. c.id) it.crates.items in
      and_from (bytes_eq found crates) _ (bytes_same found crates ids_same) (in_all (is_summary it) list summary_right)
