-- Summaries that pass are those of what is built from the records.
use Rattle.reg_check_sound.proofs.Words.{IsIn, in_filter, map_same, filter_map, columns_of_summary, Summary, StandSummaries, highest_in}
use Rattle.reg_check_sound.proofs.Words.{length_in, mark_shown, row_of_summary, highest_same, length_same, is_summary, its_versions, ids_from}
use Rattle.reg_check_sound.proofs.Words.{registry_from, version_from, IsKeyed}
use Rattle.reg_check_sound.proofs.Common.{◌≡◌, ◌==◌, [], ◌∷◌, ◌∙◌, all_weaker, AllRows, and_parts, ap, by_column, entry_of_crate, eqb-true, filter, IdAssignment, Int, IsPermutation, length, map, maps_twice, mark_cmp, Null, pos, Row, shows, string_bytes, subst, sym, Trees, Version, ℕ}
use Rattle.std.specs.FinSet as finset
use Rattle.reg_model.proofs.Members.{all_in}
use Rattle.reg_tables_represent.specs.Summaries.{row_among}
use Rattle.reg_tables_represent.specs.Summaries as stored
use Rattle.reg_audit.specs.Checks.{shown_version}
use Rattle.reg_check_sound.proofs.Passing.{Passing, summaries_whole, summary_ids}
use Rattle.reg_check_sound.proofs.Shapes.{whole_rows, with_null}
use Rattle.reg_check_sound.proofs.Versions.{marked}
use Rattle.reg_check_sound.proofs.Crates.{told_crate}

module _ (it : AllRows) (db : Trees) (h : Passing it db) where
  abbrev ids : IdAssignment
  ids = ids_from it db

  abbrev yanked : finset.FinSet mark_cmp
  yanked = (registry_from it db).yanked

  its_same : (id : ℕ) → its_versions it id ≡ map (mark_shown yanked) (stored.its_versions ids id)
  its_same id =
      let its = filter (λ (v : Version). v.crate_id == id) it.versions.items in
      let each = map_same shown_version (λ v. mark_shown yanked (version_from it db v)) its (λ v i. λ j.
      record { id = v.id; version = string_bytes v.vers; stem_length = length v.stem.items; yanked = sym (marked it db h v (in_filter (λ v. v.crate_id == id) it.versions.items v i)) j }) in
      each ∙ sym (maps_twice (version_from it db) (mark_shown yanked) its) ∙ ap (map (mark_shown yanked)) (sym (filter_map (version_from it db) (λ v. v.of_crate == id) it.versions.items))

  abbrev row_at : ℕ → Row
  row_at id = row_among yanked id (stored.its_versions ids id)

  row_is : (s : Summary) → IsIn s it.summaries.items → with_null (columns_of_summary s) ≡ row_at s.crate_id
  row_is s i =
      let its = its_versions it s.crate_id in
      let same = its_same s.crate_id in
      let p = and_parts (s.highest == highest_in its) (s.index_length == length_in its) (all_in (is_summary it) it.summaries.items s (summaries_whole it db h) i) in
      let highest = eqb-true s.highest (highest_in its) p.0 ∙ ap highest_in same ∙ highest_same yanked (stored.its_versions ids s.crate_id) in
      let long = eqb-true s.index_length (length_in its) p.1 ∙ ap length_in same ∙ length_same yanked (stored.its_versions ids s.crate_id) in
      λ j. Int (pos s.crate_id) ∷ Null ∷ Int (pos (highest j)) ∷ Int (pos (long j)) ∷ []

  pub summaries_stand : StandSummaries ids yanked (db 16)
  summaries_stand =
      let show = shows (0 ∷ 2 ∷ 3 ∷ []) in
      let list = it.summaries.items in
      let crates = it.crates.items in
      let whole = all_weaker (IsKeyed (0 ∷ 1 ∷ 2 ∷ 3 ∷ [])) (λ r. with_null (show r) ≡ r) told_crate (db 16) h.rules.columns.summaries in
      let rows = whole_rows show with_null columns_of_summary (by_column 0) (db 16) list whole h.are.summaries in
      let by_id = map_same (λ s. with_null (columns_of_summary s)) (λ s. row_at s.crate_id) list row_is ∙ sym (maps_twice (λ (s : Summary). s.crate_id) row_at list) in
      let same = by_id ∙ ap (map row_at) (summary_ids it db h) ∙ maps_twice (λ c. c.id) row_at crates ∙ sym (maps_twice entry_of_crate (row_of_summary ids yanked) crates) in
      record { are = subst (λ xs. IsPermutation xs (db 16)) same rows }
