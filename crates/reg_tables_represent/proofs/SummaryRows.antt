-- What the rows of versions say of the highest of a crate and of its index file.
use Rattle.reg_tables_represent.proofs.Words.{length-append, ascending-filter, IsPermutation-filter, end_of, file_text, columns_of_mark}
use Rattle.reg_tables_represent.proofs.Words.{shows_mark, IsSummaryOf, columns_of_summary, summary_places, summary_row, Summary, VersionMark}
use Rattle.reg_tables_represent.proofs.Words.{StandCrates, row_of_version, HasVersion, IsVersionAt, ShownMark, highest_in, highest_of}
use Rattle.reg_tables_represent.proofs.Words.{id_among, is_marked, its_versions, length_among, length_in, length_of, line_length, mark_shown}
use Rattle.reg_tables_represent.proofs.Words.{marked_of, read_mark, row_among, shown_mark, top_place, parts_of}
use Rattle.reg_tables_represent.proofs.Common.{◌≡◌, ◌==◌, ◌+◌, ◌<◌, [], ◌∷◌, ◌++◌, ◌∙◌, ap, Bool, by_column, eq-eqb, eqb-true, filter, filter_map, is_number, IsIn, IsPermutation, length, List, map, map_same, maps_twice, mark_cmp, nat_eq, None, on, one_passes, one_row, Option, option_and_then, option_map, Publication, refl, same_filter, shown_of, shows, slice_get, Some, subst, suc, sym, Trees, true, unwrap_or, zero, ℕ}
use Rattle.std.specs.FinSet as finset
use Rattle.std.proofs.lemmas.List.Sums.{sum_by-cons}
use Rattle.reg_tables_sql.specs.VersionMarks.{AreMarksOf, IsMarkWithId}
use Rattle.reg_tables_represent.proofs.AccountEntries.{heads, mark_is, number_is, tails, words_are}
use Rattle.reg_tables_represent.proofs.CrateLemmas.{apart_by}
use Rattle.reg_tables_represent.proofs.Selected.{column_total, each_part, shown_in_turn, same_one}
use Rattle.reg_tables_represent.proofs.Standing.{same_number}
use Rattle.reg_tables_represent.proofs.VersionEntries.{ids_rise, rows_rise}
use Rattle.reg_tables_represent.specs.Stored.{IdAssignment, StoredVersion}
use Rattle.reg_tables_represent.specs.SummaryChanges.{IsKept}
use Rattle.reg_tables_represent.specs.Summaries.{columns_of_shown}

pub got_map : {X Y : Type 0} (f : X → Y) (k : ℕ) (xs : List X) → slice_get (map f xs) k ≡ option_map f (slice_get xs k)
got_map f k [] = refl
got_map f zero (x ∷ xs) = refl
got_map f (suc k) (x ∷ xs) = got_map f k xs

pub mapped : {X Y Z : Type 0} (g : Y → Z) (f : X → Y) (o : Option X) → option_map g (option_map f o) ≡ option_map (λ x. g (f x)) o
mapped g f None = refl
mapped g f (Some x) = refl

-- what stands at a place of a list, and what stands there of another, of which it is the image
pub got_at : {X Y Z : Type 0} (g : Y → Z) (f : X → Y) (xs : List X) (o : Option ℕ) → option_map g (option_and_then (slice_get (map f xs)) o) ≡ option_map (λ x. g (f x)) (option_and_then (slice_get xs) o)
got_at g f xs None = refl
got_at g f xs (Some k) = ap (option_map g) (got_map f k xs) ∙ mapped g f (slice_get xs k)

module _ (yanked : finset.FinSet mark_cmp) where
  pub highest_same : (vs : List StoredVersion) → highest_in (map (mark_shown yanked) vs) ≡ id_among yanked vs
  highest_same vs =
      ap (λ o. unwrap_or o 0)
      (got_at (λ m. m.id) (mark_shown yanked) vs (top_place (map read_mark (map (mark_shown yanked) vs)))
      ∙ ap (λ ms. option_map (λ (v : StoredVersion). v.id) (option_and_then (slice_get vs) (top_place ms))) (maps_twice (mark_shown yanked) read_mark vs))

  pub length_same : (vs : List StoredVersion) → length_in (map (mark_shown yanked) vs) ≡ length_among yanked vs
  length_same [] = refl
  length_same (v ∷ vs) =
      let rest = file_text (map (λ (v : StoredVersion). (v.publication.stem, is_marked yanked v)) vs) in
      let stem = v.publication.stem in
      let end = end_of (is_marked yanked v) in
      sum_by-cons line_length (mark_shown yanked v) (map (mark_shown yanked) vs)
      ∙ ap (λ n. (length stem + length end) + n) (length_same vs)
      ∙ ap (λ n. n + length rest) (sym (length-append stem end)) ∙ sym (length-append (stem ++ end) rest)

module _ (ids : IdAssignment) (ps : List Publication) (yanked : finset.FinSet mark_cmp) (db : Trees) (h : StandCrates ids ps yanked db) where
  same_shown : (v : StoredVersion) (m : VersionMark) → shows_mark (row_of_version yanked v) ≡ columns_of_mark m → mark_shown yanked v ≡ shown_mark m
  same_shown v m e =
      let id = number_is (heads e) in
      let version = words_are (heads (tails e)) in
      let long = number_is (heads (tails (tails e))) in
      let mark = mark_is _ _ (heads (tails (tails (tails e)))) in
      λ i. record { id = id i; version = version i; stem_length = long i; yanked = mark i }

  pub marks_shown : (id : ℕ) (list : List VersionMark) → AreMarksOf id db list → map shown_mark list ≡ map (mark_shown yanked) (its_versions ids id)
  marks_shown id list found =
      let row = row_of_version yanked in
      let its = its_versions ids id in
      let rows : IsPermutation (map row its) (filter (is_number 2 id) (db 11)) =
      subst (λ ys. IsPermutation ys (filter (is_number 2 id) (db 11))) (filter_map row (is_number 2 id) ids.versions ∙ ap (map row) (same_filter _ _ (λ v. same_number v.of_crate id) ids.versions))
      (IsPermutation-filter (is_number 2 id) (map row ids.versions) (db 11) h.version_rows) in
      let up = rows_rise yanked its (ascending-filter (λ v w. v.id < w.id) (λ v. v.of_crate == id) ids.versions (ids_rise yanked ids.versions h.rising)) in
      let shown = shown_in_turn row shows_mark (by_column 0) (column_total 0) its (filter (is_number 2 id) (db 11)) (map columns_of_mark list) rows up found in
      each_part (λ v. shows_mark (row v)) columns_of_mark (mark_shown yanked) shown_mark same_shown its list shown

  pub highest_is : (id : ℕ) (list : List VersionMark) → AreMarksOf id db list → highest_in (map shown_mark list) ≡ highest_of ids yanked id
  highest_is id list found = ap highest_in (marks_shown id list found) ∙ highest_same yanked (its_versions ids id)

  pub length_is : (id : ℕ) (list : List VersionMark) → AreMarksOf id db list → length_in (map shown_mark list) ≡ length_of ids yanked id
  length_is id list found = ap length_in (marks_shown id list found) ∙ length_same yanked (its_versions ids id)

  -- the row of a version that is there is the only one with its id
  pub version_at : (v : StoredVersion) → IsIn v ids.versions → HasVersion (mark_shown yanked v) db
  version_at v i =
      let test : StoredVersion → Bool = λ w. is_number 0 v.id (row_of_version yanked w) in
      let passes : (w : StoredVersion) → test w ≡ true → w.id ≡ v.id = λ w p. eqb-true w.id v.id (sym (same_number w.id v.id) ∙ p) in
      let one = one_passes (on (λ w. w.id) nat_eq) test ids.versions v (apart_by (λ w. w.id) ids.versions h.rising) (λ w x j k p q. eq-eqb w.id x.id (passes w p ∙ sym (passes x q))) i (same_number v.id v.id ∙ eq-eqb v.id v.id refl) in
      ap (map shows_mark) (one_row (row_of_version yanked) (is_number 0 v.id) v ids.versions (db 11) h.version_rows one)

same_mark : (v : ShownMark) (m : VersionMark) → columns_of_shown v ≡ columns_of_mark m → shown_mark m ≡ v
same_mark v m e =
    let id = number_is (heads e) in
    let version = words_are (heads (tails e)) in
    let long = number_is (heads (tails (tails e))) in
    let mark = mark_is _ _ (heads (tails (tails (tails e)))) in
    sym (λ i. record { id = id i; version = version i; stem_length = long i; yanked = mark i })

-- what was found of the version with this id
pub mark_found : (id : ℕ) (db : Trees) (found : Option VersionMark) (m : VersionMark) → found ≡ Some m → IsMarkWithId id db found → IsVersionAt id db m
mark_found id db found m is told v e has =
    same_mark v m (same_one (sym has ∙ (λ i. map shows_mark (filter (is_number 0 (e i)) (db 11))) ∙ told ∙ ap (shown_of columns_of_mark) is))

-- what was found of the summary of the crate
pub kept_found : (id : ℕ) (db : Trees) (found : Option Summary) (m : Summary) → found ≡ Some m → IsSummaryOf id db found → IsKept id db m
kept_found id db found m is told highest length has =
    let e : shows summary_places (summary_row id highest length) ≡ columns_of_summary m = same_one (sym (ap (map (shows summary_places)) has) ∙ told ∙ ap (shown_of columns_of_summary) is) in
    (sym (number_is (heads (tails e))), sym (number_is (heads (tails (tails e)))))

-- where the versions have the same marks, the row is the same
pub same_row : (one other : finset.FinSet mark_cmp) (id : ℕ) (vs : List StoredVersion) → ((v : StoredVersion) → IsIn v vs → is_marked one v ≡ is_marked other v) → row_among one id vs ≡ row_among other id vs
same_row one other id vs h =
    let marked = map_same (marked_of one) (marked_of other) vs (λ v i. ap (λ b. (parts_of v.publication.version, b)) (h v i)) in
    let lines = map_same (λ v. (v.publication.stem, is_marked one v)) (λ v. (v.publication.stem, is_marked other v)) vs (λ v i. ap (λ b. (v.publication.stem, b)) (h v i)) in
    λ i. summary_row id (unwrap_or (option_map (λ (v : StoredVersion). v.id) (option_and_then (slice_get vs) (top_place (marked i)))) 0) (length (file_text (lines i)))
