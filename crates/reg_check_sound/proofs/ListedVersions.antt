-- The versions that are read are those of the registry.
use Rattle.reg_check_sound.proofs.Words.{filter_map, columns_of_version, row_of_version, IdAssignment, StoredVersion, mark_shown, heads, tails}
use Rattle.reg_check_sound.proofs.Words.{words_are, column_total, each_part, shown_in_turn, its_versions}
use Rattle.reg_check_sound.proofs.Common.{◌≡◌, ◌==◌, [], ◌∷◌, ◌∙◌, AllRows, ap, by_column, drop, filter, in_map, IsIn, length, List, map, map_in, maps_twice, mark_cmp, Registry, Row, shows, subst, sym, Trees, Version, ℕ}
use Rattle.std.specs.FinSet as finset
use Rattle.reg_tables_represent.specs.Entries.{ShownVersion, shown_version, version_shown}
use Rattle.reg_tables_represent.specs.Summaries.{ShownMark}
use Rattle.reg_tables_represent.specs.Summaries as stored
use Rattle.reg_tables_represent.proofs.AccountEntries.{mark_is, number_is, text_is}
use Rattle.reg_tables_represent.proofs.VersionEntries.{bytes_are}
use Rattle.reg_check_sound.proofs.Shown.{rows_rise}
use Rattle.reg_check_sound.proofs.Standing.{Standing}

abbrev show : Row → Row
show = shows (0 ∷ 2 ∷ 3 ∷ 4 ∷ 5 ∷ 6 ∷ 7 ∷ 8 ∷ [])

-- all that a row says of a version
pub record Told : Type 0 where
  pub id : ℕ
  pub of_crate : ℕ
  pub shown : ShownVersion

abbrev pub told : Version → Told
told v = record { id = v.id; of_crate = v.crate_id; shown = shown_version v }

abbrev pub told_of : finset.FinSet mark_cmp → StoredVersion → Told
told_of yanked w = record { id = w.id; of_crate = w.of_crate; shown = version_shown yanked w.publication }

same_told : (yanked : finset.FinSet mark_cmp) (w : StoredVersion) (v : Version) → show (row_of_version yanked w) ≡ columns_of_version v → told_of yanked w ≡ told v
same_told yanked w v h =
    let id = number_is (heads h) in
    let of_crate = number_is (heads (tails h)) in
    let later = tails (tails h) in
    let version = words_are (heads later) in
    let release = words_are (heads (tails later)) in
    let digest = bytes_are (heads (tails (tails later))) in
    let stem = bytes_are (heads (tails (tails (tails later)))) in
    let description = text_is _ _ (heads (tails (tails (tails (tails later))))) in
    let mark = mark_is _ _ (heads (tails (tails (tails (tails (tails later)))))) in
    λ i. record { id = id i; of_crate = of_crate i; shown = record { version = version i; release = release i; digest = digest i; stem = stem i; description = description i; yanked = mark i } }

module _ (it : AllRows) (db : Trees) (ids : IdAssignment) (s : Registry) (h : Standing it db ids s) where
  abbrev list : List Version
  list = it.versions.items

  pub versions_listed : map told list ≡ map (told_of s.yanked) ids.versions
  versions_listed =
      let row = row_of_version s.yanked in
      let stands = h.holds.stands.crates in
      let up = rows_rise (λ v. v.id) (λ v. drop 1 (row v)) ids.versions stands.rising in
      let shown = shown_in_turn row show (by_column 0) (column_total 0) ids.versions (db 11) (map columns_of_version list) stands.version_rows up h.are.versions in
      each_part (λ v. show (row v)) columns_of_version (told_of s.yanked) told (same_told s.yanked) ids.versions list shown

  -- a version that is read is one of them, and each of them is read
  pub version_in : (v : Version) → IsIn v list → (w : StoredVersion) × IsIn w ids.versions × (told_of s.yanked w ≡ told v)
  version_in v i = map_in (told_of s.yanked) ids.versions (told v) (subst (IsIn (told v)) versions_listed (in_map told list v i))

  pub in_list : (w : StoredVersion) → IsIn w ids.versions → (v : Version) × IsIn v list × (told v ≡ told_of s.yanked w)
  in_list w i = map_in told list (told_of s.yanked w) (subst (IsIn (told_of s.yanked w)) (sym versions_listed) (in_map (told_of s.yanked) ids.versions w i))

  abbrev mark_told : Told → ShownMark
  mark_told t = record { id = t.id; version = t.shown.version; stem_length = length t.shown.stem; yanked = t.shown.yanked }

  -- the versions of a crate give its summary what those of the registry give
  pub its_listed : (id : ℕ) → its_versions it id ≡ map (mark_shown s.yanked) (stored.its_versions ids id)
  its_listed id =
      let of_it = λ (t : Told). t.of_crate == id in
      let read = sym (maps_twice told mark_told (filter (λ (v : Version). v.crate_id == id) list)) ∙ ap (map mark_told) (sym (filter_map told of_it list)) in
      let kept = ap (map mark_told) (filter_map (told_of s.yanked) of_it ids.versions) ∙ maps_twice (told_of s.yanked) mark_told (stored.its_versions ids id) in
      read ∙ ap (λ ts. map mark_told (filter of_it ts)) versions_listed ∙ kept
