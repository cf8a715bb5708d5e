-- The crates of a table of marks after a change that names a crate by its id.
use Rattle.reg_tables_represent.proofs.Words.{nat_list_cmp_total, nat_eq_equiv, told_of, is_at_one_of, insert_again, text_apart}
use Rattle.reg_tables_represent.proofs.Words.{any-filter_same, and_from, eq-eqb, eqb-true, IsIn, all_in, any_in, each_in, filtered_passes}
use Rattle.reg_tables_represent.proofs.Words.{in_all, in_any, in_filter, in_map, in_permuted, map_in, none_in, IdAssignment, StandCrates, StandMarked}
use Rattle.reg_tables_represent.proofs.Words.{StoredCrate, spelling_at}
use Rattle.reg_tables_represent.proofs.CrateNames.{kept}
use Rattle.reg_tables_represent.proofs.Common.{◌≡◌, ◌==◌, [], ◌∷◌, ◌&&◌, ◌||◌, ◌∙◌, AllByRecursion, any_same, ap, Bool, bytes_eq, canon, false, filter, filter_map, has_rowid, Int, is_eq, is_eq-slice_cmp, is_number, IsPermutation, IsPermutation-cons, IsPermutation-filter, IsPermutation-map, IsPermutation-sym, IsPermutation-trans, List, list_any, list_any-IsPermutation, list_any_map, map, mark_cmp, None, not, not_true, Option, pos, Publication, put_permutes, put_row, refl, Row, rowid, same_filter, shows, Some, subst, sym, Text, text_cmp, Trees, true, true_not_false, value_cmp, ℕ}
use Rattle.reg_tables_represent.proofs.VersionEntries.{same_passes}
use Rattle.reg_tables_represent.proofs.Standing.{same_number}
use Rattle.reg_tables_sql.specs.Restricted.{restricted_row}
use Rattle.reg_tables_represent.specs.Changes.{mark_in}
use Rattle.reg_tables_represent.proofs.Removed.{keeps_all}
use Rattle.sqlite_rules.specs.Edit.{id_in, is_taken}
use Rattle.reg_tables_represent.proofs.PairChanges.{crates_alike}
use Rattle.reg_tables_represent.proofs.CrateLemmas.{crate_there, no_row, not_at, there_at}
use Rattle.reg_tables_represent.proofs.Selected.{same_one}
use Rattle.reg_tables_schema.specs.Rows.{number_columns}
use Rattle.std.specs.FinSet as finset

-- a row is told by its key
abbrev key_of : Row → Row
key_of r = shows (0 ∷ []) r

row_has : (id i : ℕ) → is_number 0 id (number_columns i) ≡ (i == id)
row_has id i = same_number i id

-- rows with these keys have one rowid exactly where these are one
at_key : (r x : Row) (i j : ℕ) → Int (pos i) ≡ rowid r → Int (pos j) ≡ rowid x → has_rowid (id_in (rowid x)) r ≡ (i == j)
at_key r x i j e f = (λ n. is_eq (value_cmp (sym e n) (Int (id_in (sym f n))))) ∙ same_number i j

module _ (ids : IdAssignment) (publications : List Publication) (yanked : finset.FinSet mark_cmp) (db : Trees) (stands : StandCrates ids publications yanked db) (marked : finset.FinSet text_cmp) (rows : List Row) (all : StandMarked ids.crates marked rows) (id : ℕ) where
  -- whether a row has the id, and whether it is among the marks
  pub any_row : list_any (is_number 0 id) rows ≡ list_any (λ i. i == id) all.marks
  any_row =
      sym (list_any_map (is_number 0 id) key_of rows) ∙ sym (list_any-IsPermutation (is_number 0 id) (map number_columns all.marks) (map key_of rows) all.are)
      ∙ list_any_map (is_number 0 id) number_columns all.marks ∙ any_same (λ i. is_number 0 id (number_columns i)) (λ i. i == id) (row_has id) all.marks

  at_crate : (name : Text) → IsIn (id, name) ids.crates → finset.contains marked (canon name) ≡ list_any (λ i. i == id) all.marks
  at_crate name there = each_in (λ c. finset.contains marked (canon c.1) ≡ list_any (λ i. i == c.0) all.marks) ids.crates (id, name) all.same there

  none_marked : spelling_at ids id ≡ None → list_any (λ i. i == id) all.marks ≡ false
  none_marked none = none_in (λ i. i == id) all.marks (λ i k. not_true _ (λ e.
      let c = any_in (λ c. c.0 == i) ids.crates (all_in (λ i. list_any (λ c. c.0 == i) ids.crates) all.marks i all.of_crates k) in
      true_not_false _ (in_any (λ c. c.0 == id) ids.crates c.0 c.1 (eq-eqb c.0.0 id (eqb-true c.0.0 i c.2 ∙ eqb-true i id e))) (not_at ids id none)))

  pub is_marked : list_any (is_number 0 id) rows ≡ told_of (spelling_at ids id) false (λ name. finset.contains marked (canon name))
  is_marked = any_row ∙ split (spelling_at ids id) refl
    where
      split : (o : Option Text) → spelling_at ids id ≡ o → list_any (λ i. i == id) all.marks ≡ told_of o false (λ name. finset.contains marked (canon name))
      split None none = none_marked none
      split (Some name) at = sym (at_crate name (there_at ids id name at))

  -- a mark that is there already is not added, nor that of a crate that is not there
  pub again : list_any (is_number 0 id) rows ≡ true → marked ≡ mark_in (spelling_at ids id) true marked
  again is = split (spelling_at ids id) refl
    where
      split : (o : Option Text) → spelling_at ids id ≡ o → marked ≡ mark_in o true marked
      split None none = refl
      split (Some name) at = sym (insert_again nat_list_cmp_total text_apart marked (canon name) (at_crate name (there_at ids id name at) ∙ sym any_row ∙ is))

  pub no_crate : list_any (has_rowid (pos id)) (db 7) ≡ false → marked ≡ mark_in (spelling_at ids id) true marked
  no_crate none = split (spelling_at ids id) refl
    where
      split : (o : Option Text) → spelling_at ids id ≡ o → marked ≡ mark_in o true marked
      split None at = refl
      split (Some name) at = true_not_false _ (crate_there ids publications yanked db stands id name (there_at ids id name at)) none

  -- of the crates that are there, one has its id and its canonical text
  alike_at : (name : Text) → IsIn (id, name) ids.crates → AllByRecursion (λ c. bytes_eq (canon c.1) (canon name) ≡ (c.0 == id)) ids.crates
  alike_at name there = crates_alike ids publications yanked db stands finset.empty id name there

  more_marked : (name : Text) (cs : List StoredCrate) → AllByRecursion (λ c. bytes_eq (canon c.1) (canon name) ≡ (c.0 == id)) cs → AllByRecursion (λ c. finset.contains marked (canon c.1) ≡ list_any (λ i. i == c.0) all.marks) cs
      → AllByRecursion (λ c. finset.contains (finset.insert marked (canon name)) (canon c.1) ≡ list_any (λ i. i == c.0) (id ∷ all.marks)) cs
  more_marked name [] same was = tt
  more_marked name (c ∷ cs) same was = (
    finset.contains-insert nat_list_cmp_total marked (canon name) (canon c.1) ∙ ap (λ b. b || finset.contains marked (canon c.1)) (is_eq-slice_cmp (canon c.1) (canon name) ∙ same.0 ∙ nat_eq_equiv.symm c.0 id) ∙ ap (λ b. (id == c.0) || b) was.0,
    more_marked name cs same.1 was.1,
  )

  less_marked : (name : Text) (cs : List StoredCrate) → AllByRecursion (λ c. bytes_eq (canon c.1) (canon name) ≡ (c.0 == id)) cs → AllByRecursion (λ c. finset.contains marked (canon c.1) ≡ list_any (λ i. i == c.0) all.marks) cs
      → AllByRecursion (λ c. finset.contains (finset.remove marked (canon name)) (canon c.1) ≡ list_any (λ i. i == c.0) (filter (λ i. not (i == id)) all.marks)) cs
  less_marked name [] same was = tt
  less_marked name (c ∷ cs) same was = (
    finset.contains-remove nat_list_cmp_total marked (canon name) (canon c.1) ∙ ap (λ b. not b && finset.contains marked (canon c.1)) (is_eq-slice_cmp (canon c.1) (canon name) ∙ same.0) ∙ ap (λ b. not (c.0 == id) && b) was.0
        ∙ sym (any-filter_same (λ i. i == c.0) (λ i. not (i == id)) (not (c.0 == id)) (λ i h. ap (λ n. not (n == id)) (eqb-true i c.0 h)) all.marks),
    less_marked name cs same.1 was.1,
  )

  pub added : list_any (has_rowid (pos id)) (db 7) ≡ true → is_taken rows (restricted_row id) ≡ false → StandMarked ids.crates (mark_in (spelling_at ids id) true marked) (put_row (restricted_row id) rows)
  added crate free = split (spelling_at ids id) refl
    where
      split : (o : Option Text) → spelling_at ids id ≡ o → StandMarked ids.crates (mark_in o true marked) (put_row (restricted_row id) rows)
      split None none = true_not_false _ crate (no_row ids publications yanked db stands id none)
      split (Some name) at =
          let there = there_at ids id name at in
          record {
            marks = id ∷ all.marks;
            are = IsPermutation-trans (map number_columns (id ∷ all.marks)) (map key_of (restricted_row id ∷ rows)) (map key_of (put_row (restricted_row id) rows))
                (IsPermutation-cons (number_columns id) (map number_columns all.marks) (map key_of rows) all.are) (IsPermutation-map key_of (restricted_row id ∷ rows) (put_row (restricted_row id) rows) (put_permutes (restricted_row id) rows free));
            of_crates = and_from _ _ (in_any (λ c. c.0 == id) ids.crates (id, name) there (eq-eqb id id refl)) all.of_crates;
            same = more_marked name ids.crates (alike_at name there) all.same;
          }

  kept_rows : IsPermutation (map number_columns (filter (λ i. not (i == id)) all.marks)) (map key_of (filter (λ r. not (is_number 0 id r)) rows))
  kept_rows =
      let test = λ (r : Row). not (is_number 0 id r) in
      let marks = filter_map number_columns test all.marks ∙ ap (map number_columns) (same_filter (λ i. test (number_columns i)) (λ i. not (i == id)) (λ i. ap not (row_has id i)) all.marks) in
      subst (IsPermutation (map number_columns (filter (λ i. not (i == id)) all.marks))) (filter_map key_of test rows)
      (subst (λ (rs : List Row). IsPermutation rs (filter test (map key_of rows))) marks (IsPermutation-filter test (map number_columns all.marks) (map key_of rows) all.are))

  less : (name : Text) → IsIn (id, name) ids.crates → StandMarked ids.crates (finset.remove marked (canon name)) (filter (λ r. not (is_number 0 id r)) rows)
  less name there = record {
    marks = filter (λ i. not (i == id)) all.marks;
    are = kept_rows;
    of_crates = in_all (λ i. list_any (λ c. c.0 == i) ids.crates) (filter (λ i. not (i == id)) all.marks) (λ i k. all_in (λ i. list_any (λ c. c.0 == i) ids.crates) all.marks i all.of_crates (in_filter (λ i. not (i == id)) all.marks i k));
    same = less_marked name ids.crates (alike_at name there) all.same;
  }

  pub removed : StandMarked ids.crates (mark_in (spelling_at ids id) false marked) (filter (λ r. not (is_number 0 id r)) rows)
  removed = split (spelling_at ids id) refl
    where
      split : (o : Option Text) → spelling_at ids id ≡ o → StandMarked ids.crates (mark_in o false marked) (filter (λ r. not (is_number 0 id r)) rows)
      split None none = subst (StandMarked ids.crates marked) (sym (keeps_all (is_number 0 id) rows (any_row ∙ none_marked none))) all
      split (Some name) at = less name (there_at ids id name at)

  -- what DELETE leaves: each row is found again by its key
  is_row : (r : Row) → IsIn r rows → (i : ℕ) × (Int (pos i) ≡ rowid r)
  is_row r k =
      let there = in_permuted (map key_of rows) (map number_columns all.marks) (key_of r) (IsPermutation-sym (map number_columns all.marks) (map key_of rows) all.are) (in_map key_of rows r k) in
      let i = map_in number_columns all.marks (key_of r) there in
      (i.0, same_one i.2)

  its_test : (i : ℕ) (r : Row) → Int (pos i) ≡ rowid r → (i == id) ≡ is_number 0 id r
  its_test i r e = sym (row_has id i) ∙ ap (λ v. is_eq (value_cmp v (Int (pos id)))) e

  told : (r : Row) → IsIn r rows → is_at_one_of (filter (is_number 0 id) rows) r ≡ is_number 0 id r
  told r k = split (is_number 0 id r) refl
    where
      split : (b : Bool) → is_number 0 id r ≡ b → is_at_one_of (filter (is_number 0 id) rows) r ≡ b
      split true has =
          let i = is_row r k in
          in_any (λ x. has_rowid (id_in (rowid x)) r) (filter (is_number 0 id) rows) r (kept (is_number 0 id) rows r k has) (at_key r r i.0 i.0 i.1 i.1 ∙ eq-eqb i.0 i.0 refl)
      split false lacks =
          let i = is_row r k in
          let other : (i.0 == id) ≡ false = its_test i.0 r i.1 ∙ lacks in
          none_in (λ x. has_rowid (id_in (rowid x)) r) (filter (is_number 0 id) rows) (λ x l.
          let j = is_row x (in_filter (is_number 0 id) rows x l) in
          let mine : j.0 ≡ id = eqb-true j.0 id (its_test j.0 x j.1 ∙ filtered_passes (is_number 0 id) rows x l) in
          at_key r x i.0 j.0 i.1 j.1 ∙ ap (λ n. i.0 == n) mine ∙ other)

  pub left : (now : List Row) → now ≡ filter (λ row. not (is_at_one_of (filter (is_number 0 id) rows) row)) rows → StandMarked ids.crates (mark_in (spelling_at ids id) false marked) now
  left now is =
      let same = same_passes (λ row. not (is_at_one_of (filter (is_number 0 id) rows) row)) (λ row. not (is_number 0 id row)) rows (λ r k. ap not (told r k)) in
      subst (StandMarked ids.crates (mark_in (spelling_at ids id) false marked)) (sym (is ∙ same)) removed

  -- what is told of a crate that is there
  pub mark_told : (n : Text) → spelling_at ids id ≡ Some n → (b : Bool) → list_any (is_number 0 id) rows ≡ b → finset.contains marked (canon n) ≡ b
  mark_told n at b is = sym (is_marked ∙ ap (λ o. told_of o false (λ name. finset.contains marked (canon name))) at) ∙ is

  pub no_crate_told : list_any (has_rowid (pos id)) (db 7) ≡ false → (n : Text) → spelling_at ids id ≡ Some n → {A : Type 0} → A
  no_crate_told none n at = true_not_false _ (crate_there ids publications yanked db stands id n (there_at ids id n at)) none
