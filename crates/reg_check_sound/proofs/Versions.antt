-- Versions that pass: their rows, their ids and their crates, and the marks of those that are yanked.
use Rattle.reg_check_sound.proofs.Words.{list_all, list_any, IsPermutation, option_map, Null, Int, Text, Blob, release_key_of, mark_cmp}
use Rattle.reg_check_sound.proofs.Words.{mark_total, mark_apart, same_key, ties_itself, true_not_false, not_true, IsIn, any_in, in_all}
use Rattle.reg_check_sound.proofs.Words.{in_any, in_map, map_in, map_same, one_of, by_column, columns_of_version, row_of_version, StoredCrate}
use Rattle.reg_check_sound.proofs.Words.{StoredVersion, same_text, mark_from, name_from, registry_from, spelling, version_from, IsKeyed}
use Rattle.reg_check_sound.proofs.Words.{same_at}
use Rattle.reg_check_sound.proofs.Common.{◌≡◌, ◌==◌, [], ◌∷◌, ◌∙◌, ◌&&◌, all_weaker, AllRows, and_from, and_parts, ap, ap₂, Bool, bytes_eq, bytes_same, canon, column, Crate, drop, entry_of_crate, eq-eqb, eq_by_cmp, eqb-true, false, filter, List, map, maps_twice, nat_cmp, pos, refl, Row, same_number, shows, string_bytes, subst, sym, Trees, true, Version}
use Rattle.std.specs.List.{IsDistinct}
use Rattle.std.specs.List.Sorted.{IsStrictlySortedBy}
use Rattle.std.specs.FinSet as finset
use Rattle.reg_model.specs.Registry.{Mark}
use Rattle.reg_model.proofs.Lists.{list_any_map, any_filter}
use Rattle.reg_model.proofs.Members.{none_in}
use Rattle.reg_tables_schema.specs.Rows.{sql_bool, text_or_null}
use Rattle.reg_tables_represent.specs.Stands.{is_of}
use Rattle.reg_check_sound.proofs.Crates.{found_in, name_of, one_crate}
use Rattle.reg_check_sound.proofs.Passing.{Passing, crate_is, genuine}
use Rattle.reg_check_sound.proofs.Plain.{flips}
use Rattle.reg_check_sound.proofs.Rising.{listed_rise}
use Rattle.reg_check_sound.proofs.Shapes.{with_null, whole_rows}
use Rattle.reg_check_sound.proofs.Uniques.{own_so, pairs_so, number_flips, same_at_flips}

abbrev pub show : Row → Row
show = shows (0 ∷ 2 ∷ 3 ∷ 4 ∷ 5 ∷ 6 ∷ 7 ∷ 8 ∷ [])

pub told : (r : Row) → IsKeyed (0 ∷ 1 ∷ 2 ∷ 3 ∷ 4 ∷ 5 ∷ 6 ∷ 7 ∷ 8 ∷ []) r → with_null (show r) ≡ r
told r h = (λ i. column r 0 ∷ sym h.1 i ∷ column r 2 ∷ column r 3 ∷ column r 4 ∷ column r 5 ∷ column r 6 ∷ column r 7 ∷ column r 8 ∷ []) ∙ h.0

module _ (it : AllRows) (db : Trees) (h : Passing it db) where
  abbrev vs : List Version
  vs = it.versions.items

  abbrev row : Version → Row
  row v = with_null (columns_of_version v)

  pub rows_of_versions : IsPermutation (map row vs) (db 11)
  rows_of_versions = whole_rows show with_null columns_of_version (by_column 0) (db 11) vs (all_weaker (IsKeyed (0 ∷ 1 ∷ 2 ∷ 3 ∷ 4 ∷ 5 ∷ 6 ∷ 7 ∷ 8 ∷ [])) (λ r. with_null (show r) ≡ r) told (db 11) h.rules.columns.versions) h.are.versions

  pub version_ids_apart : IsDistinct (λ v w. v.id == w.id) vs
  version_ids_apart = own_so row vs (db 11) rows_of_versions (λ v w. v.id == w.id) (λ v w. same_number v.id w.id) h.are.apart.versions

  pub rising : IsStrictlySortedBy nat_cmp (map (λ v. v.id) (map (version_from it db) vs))
  rising = subst (IsStrictlySortedBy nat_cmp) (sym (maps_twice (version_from it db) (λ v. v.id) vs)) (listed_rise (λ v. v.id) (λ v. drop 1 (columns_of_version v)) (2 ∷ 3 ∷ 4 ∷ 5 ∷ 6 ∷ 7 ∷ 8 ∷ []) (db 11) vs h.are.versions version_ids_apart)

  abbrev pub one_release : Version → Version → Bool
  one_release v w = v.crate_id == w.crate_id && bytes_eq (string_bytes v.release) (string_bytes w.release)

  pub releases_apart : IsDistinct one_release vs
  releases_apart = pairs_so row vs (db 11) rows_of_versions (λ a b. same_at 2 a b && same_at 4 a b) one_release (same_at_flips 2 4)
      (λ v w. λ i. same_number v.crate_id w.crate_id i && same_text (string_bytes v.release) (string_bytes w.release) i) h.rules.uniques.releases

  -- the crate of a version
  pub crate_at : (v : Version) → IsIn v vs → (c : Crate) × IsIn c it.crates.items × (c.id ≡ v.crate_id) × (name_from it v.crate_id ≡ string_bytes c.name)
  crate_at v i =
      let g = genuine it db h v i in
      let there = found_in (λ c. c.id == v.crate_id) it.crates.items g.of_crate g.has_crate in
      (g.of_crate, there.0, eqb-true g.of_crate.id v.crate_id there.1, ap spelling g.has_crate)

  -- names of one canonical text are of one id
  pub one_id : (v w : Version) → IsIn v vs → IsIn w vs → canon (name_from it v.crate_id) ≡ canon (name_from it w.crate_id) → v.crate_id ≡ w.crate_id
  one_id v w i j same =
      let c = crate_at v i in
      let d = crate_at w j in
      let crate_is = one_crate it db h c.0 d.0 c.1 d.1 (ap canon (sym c.3) ∙ same ∙ ap canon d.3) in
      sym c.2 ∙ ap (λ (x : Crate). x.id) crate_is ∙ d.2

  one_key : (v w : Version) → IsIn v vs → IsIn w vs → mark_from it v ≡ mark_from it w → v ≡ w
  one_key v w i j same =
      let id = one_id v w i j (ap (λ (k : Mark). k.0) same) in
      let release : string_bytes v.release ≡ string_bytes w.release = sym (genuine it db h v i).release ∙ ap (λ (k : Mark). release_key_of k.1) same ∙ (genuine it db h w j).release in
      let turns = λ (v : Version) (w : Version). ap₂ ◌&&◌ (number_flips v.crate_id w.crate_id) (flips (string_bytes v.release) (string_bytes w.release)) in
      one_of one_release turns vs v w releases_apart i j (and_from (v.crate_id == w.crate_id) _ (eq-eqb v.crate_id w.crate_id id) (bytes_same (string_bytes v.release) (string_bytes w.release) release))

  abbrev yanked : finset.FinSet mark_cmp
  yanked = (registry_from it db).yanked

  -- a version is marked as it is stored
  pub marked : (v : Version) → IsIn v vs → finset.contains yanked (mark_from it v) ≡ v.yanked
  marked v i =
      let kept = filter (λ v. v.yanked) vs in
      let test = eq_by_cmp mark_cmp (mark_from it v) in
      finset.contains-from_list mark_total (map (mark_from it) kept) (mark_from it v) ∙ list_any_map test (mark_from it) kept ∙ any_filter (λ v. v.yanked) (λ w. test (mark_from it w)) vs ∙ go v.yanked refl
    where
      go : (b : Bool) → v.yanked ≡ b → list_any (λ w. w.yanked && eq_by_cmp mark_cmp (mark_from it v) (mark_from it w)) vs ≡ b
      go true e = in_any (λ w. w.yanked && eq_by_cmp mark_cmp (mark_from it v) (mark_from it w)) vs v i (and_from v.yanked _ e (ties_itself mark_total (mark_from it v)))
      go false e = none_in (λ w. w.yanked && eq_by_cmp mark_cmp (mark_from it v) (mark_from it w)) vs (λ w j. not_true _ (λ both.
          let p = and_parts w.yanked (eq_by_cmp mark_cmp (mark_from it v) (mark_from it w)) both in
          true_not_false v.yanked (ap (λ (x : Version). x.yanked) (one_key v w i j (same_key mark_apart (mark_from it v) (mark_from it w) p.1)) ∙ p.0) e))

  pub version_rows : IsPermutation (map (row_of_version yanked) (map (version_from it db) vs)) (db 11)
  version_rows =
      let same = map_same row (λ v. row_of_version yanked (version_from it db v)) vs (λ v i. λ j.
      Int (pos v.id) ∷ Null ∷ Int (pos v.crate_id) ∷ Text (string_bytes v.vers) ∷ Text (sym (genuine it db h v i).release j) ∷ Blob v.digest.items ∷ Blob v.stem.items ∷ text_or_null (option_map string_bytes v.description) ∷ sql_bool (sym (marked v i) j) ∷ []) in
      subst (λ xs. IsPermutation xs (db 11)) (same ∙ sym (maps_twice (version_from it db) (row_of_version yanked) vs)) rows_of_versions

  abbrev entries : List StoredCrate
  entries = map entry_of_crate it.crates.items

  abbrev stored : List StoredVersion
  stored = map (version_from it db) vs

  -- each crate has a version
  pub used : list_all (λ c. list_any (is_of c) stored) entries ≡ true
  used = in_all (λ c. list_any (is_of c) stored) entries (λ e i.
      let c = map_in entry_of_crate it.crates.items e i in
      let v = any_in (λ v. v.crate_id == c.0.id) vs (crate_is it db h c.0 c.1).published in
      let id = eqb-true v.0.crate_id c.0.id v.2 in
      let name = bytes_same (string_bytes c.0.name) (name_from it v.0.crate_id) (sym (name_of it db h c.0 v.0.crate_id c.1 (sym id))) in
      let is : is_of (entry_of_crate c.0) (version_from it db v.0) ≡ true = and_from (c.0.id == v.0.crate_id) _ (eq-eqb c.0.id v.0.crate_id (sym id)) name in
      subst (λ x. list_any (is_of x) stored ≡ true) c.2 (in_any (is_of (entry_of_crate c.0)) stored (version_from it db v.0) (in_map (version_from it db) vs v.0 v.1) is))

  -- each version is of a crate
  pub of_crates : list_all (λ v. list_any (λ c. is_of c v) entries) stored ≡ true
  of_crates = in_all (λ v. list_any (λ c. is_of c v) entries) stored (λ w i.
      let v = map_in (version_from it db) vs w i in
      let c = crate_at v.0 v.1 in
      let name = bytes_same (string_bytes c.0.name) (name_from it v.0.crate_id) (sym c.3) in
      let is : is_of (entry_of_crate c.0) (version_from it db v.0) ≡ true = and_from (c.0.id == v.0.crate_id) _ (eq-eqb c.0.id v.0.crate_id c.2) name in
      subst (λ x. list_any (λ c. is_of c x) entries ≡ true) v.2 (in_any (λ c. is_of c (version_from it db v.0)) entries (entry_of_crate c.0) (in_map entry_of_crate it.crates.items c.0 c.1) is))
