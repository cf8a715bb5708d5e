-- All crates, as a selection shows them.
use Rattle.reg_tables_represent.proofs.Words.{◌≡◌, List, [], ◌∷◌, map, Bool, false, Some, Ordering, Less, Equal, Greater, refl, sym, ap}
use Rattle.reg_tables_represent.proofs.Words.{subst, ◌∙◌, string_bytes, filter, find, list_any, AllByRecursion, is_gt, is_eq, on}
use Rattle.reg_tables_represent.proofs.Words.{IsDistinct-IsPermutation, ascending_from_sorted, value_cmp-Text, Publication, text_cmp}
use Rattle.reg_tables_represent.proofs.Words.{mark_cmp, Crate, crate_columns, entry_of_crate, StoredCrate, row_of_crate, StandCrates, IdAssignment}
use Rattle.reg_tables_represent.proofs.Words.{spelling_at, IsIn, in_each, in_map, in_permuted, one_passes}
use Rattle.std.proofs.Common.{IsPermutation}
use Rattle.std.specs.FinSet as finset
use Rattle.std.specs.List.{IsDistinct}
use Rattle.std.specs.List.Sorted.{IsStrictlySortedBy}
use Rattle.reg_tables_represent.proofs.Common.{by_column, bytes_eq, canon, collides, is_eq-slice_cmp, IsAscending, IsInOrder, IsPermutation-sym, IsPermutation-trans, list_any-IsPermutation, list_any_map, maps_twice, nat_list_eq_equiv, option_map, shows, Trees, value_cmp}
use Rattle.sqlite.specs.declared.types.Value.TheVariants.{Text}
use Rattle.sqlite_trees.proofs.ListLemmas.{ascending_from_map, pull_back}
use Rattle.reg_model.specs.Registry.{Text as Words}
use Rattle.reg_tables_represent.proofs.CrateCounts.{crate_has}
use Rattle.reg_tables_represent.proofs.CrateLemmas.{same_bytes, bytes_same}
use Rattle.reg_tables_represent.proofs.CrateNames.{same_shown, crate_first, crate_spelled}
use Rattle.reg_tables_represent.proofs.Selected.{column_total, each}

pub rises : (o : Ordering) → is_gt o ≡ false → is_eq o ≡ false → o ≡ Less
rises Less g e = refl
rises Equal g e = absurd cc
rises Greater g e = absurd cc

text_rises : (t u : Words) → is_gt (value_cmp (Text t) (Text u)) ≡ false → bytes_eq t u ≡ false → text_cmp t u ≡ Less
text_rises t u g e = rises (text_cmp t u) (ap is_gt (sym (value_cmp-Text t u)) ∙ g) (is_eq-slice_cmp t u ∙ e)

abbrev canon_of : StoredCrate → Words
canon_of c = canon c.1

all_rise : (c : StoredCrate) (cs : List StoredCrate) → AllByRecursion (λ d. is_gt (by_column 2 (row_of_crate c) (row_of_crate d)) ≡ false) cs → AllByRecursion (λ d. on canon_of bytes_eq c d ≡ false) cs → AllByRecursion (λ t. text_cmp (canon_of c) t ≡ Less) (map canon_of cs)
all_rise c [] up apart = tt
all_rise c (d ∷ cs) up apart = (text_rises (canon_of c) (canon_of d) up.0 apart.0, all_rise c cs up.1 apart.1)

-- what does not fall and is distinct rises
pub canons_rise : (cs : List StoredCrate) → IsAscending (λ c d. is_gt (by_column 2 (row_of_crate c) (row_of_crate d)) ≡ false) cs → IsDistinct (on canon_of bytes_eq) cs → IsStrictlySortedBy text_cmp (map canon_of cs)
unfolding IsStrictlySortedBy IsDistinct
canons_rise [] up apart = tt
canons_rise (c ∷ cs) up apart = (all_rise c cs up.0 apart.0, canons_rise cs up.1 apart.1)

module _ (ids : IdAssignment) (ps : List Publication) (yanked : finset.FinSet mark_cmp) (db : Trees) (h : StandCrates ids ps yanked db) where
  -- what a record is that is shown of a crate
  abbrev Is : Crate → Type 0
  Is c = (option_map (λ p. p.name) (find (λ p. collides p.name (string_bytes c.name)) ps) ≡ Some (string_bytes c.name)) × (spelling_at ids c.id ≡ Some (string_bytes c.name))

  is_crate : (c : Crate) → IsIn (entry_of_crate c) ids.crates → Is c
  is_crate c i =
      let e = entry_of_crate c in
      let n = string_bytes c.name in
      let test : StoredCrate → Bool = λ x. bytes_eq (canon x.1) (canon n) in
      let one : filter test ids.crates ≡ e ∷ [] = one_passes (on canon_of bytes_eq) test ids.crates e h.canons
      (λ y z j k p q. bytes_same (canon y.1) (canon z.1) (same_bytes (canon y.1) (canon n) p ∙ sym (same_bytes (canon z.1) (canon n) q))) i (bytes_same (canon n) (canon n) refl) in
      (sym (crate_first ids ps yanked db h (canon n) n (Some c) refl one), crate_spelled ids ps yanked db h (canon n) (Some c) one)

  -- the crates that are shown, and the order in which they are
  pub record Shown (list : List Crate) : Type 0 where
    pub same : IsPermutation ids.crates (map entry_of_crate list)
    pub up : IsStrictlySortedBy text_cmp (map canon_of (map entry_of_crate list))

  pub lists_crates : (list : List Crate) → IsInOrder (by_column 2) (db 7) (shows (0 ∷ 2 ∷ 3 ∷ [])) (map crate_columns list) → Shown list
  lists_crates list found =
      let show = shows (0 ∷ 2 ∷ 3 ∷ []) in
      let whole = IsPermutation-trans (map row_of_crate ids.crates) (db 7) found.ordered h.crate_rows found.same in
      let back = pull_back row_of_crate (map row_of_crate ids.crates) found.ordered whole ids.crates refl in
      let entries : map entry_of_crate list ≡ back.0 =
      each (λ c. show (row_of_crate c)) crate_columns entry_of_crate same_shown back.0 list (found.shown ∙ ap (map show) back.2 ∙ maps_twice row_of_crate show back.0) in
      let sorted = subst (IsAscending (λ a b. is_gt (by_column 2 a b) ≡ false)) back.2 (ascending_from_sorted (by_column 2) (column_total 2) found.ordered found.sorted) in
      let up = ascending_from_map (λ a b. is_gt (by_column 2 a b) ≡ false) row_of_crate back.0 sorted in
      let apart = IsDistinct-IsPermutation (on canon_of bytes_eq) (λ (x : StoredCrate) (y : StoredCrate). nat_list_eq_equiv.symm (canon x.1) (canon y.1)) ids.crates back.0 back.1 h.canons in
      record {
        same = subst (IsPermutation ids.crates) (sym entries) back.1;
        up = subst (λ cs. IsStrictlySortedBy text_cmp (map canon_of cs)) (sym entries) (canons_rise back.0 up apart);
      }

  module _ (list : List Crate) (shown : Shown list) where
    pub each_is : AllByRecursion Is list
    each_is = in_each Is list (λ c i. is_crate c (in_permuted (map entry_of_crate list) ids.crates (entry_of_crate c) (IsPermutation-sym ids.crates (map entry_of_crate list) shown.same) (in_map entry_of_crate list c i)))

    pub rising : IsStrictlySortedBy text_cmp (map (λ c. canon (string_bytes c.name)) list)
    rising = subst (IsStrictlySortedBy text_cmp) (maps_twice entry_of_crate canon_of list) shown.up

    pub all_there : (t : Words) → list_any (λ c. bytes_eq (canon (string_bytes c.name)) t) list ≡ list_any (λ p. bytes_eq (canon p.name) t) ps
    all_there t =
        sym (list_any_map (λ (e : StoredCrate). bytes_eq (canon e.1) t) entry_of_crate list)
        ∙ sym (list_any-IsPermutation (λ (e : StoredCrate). bytes_eq (canon e.1) t) ids.crates (map entry_of_crate list) shown.same) ∙ crate_has ids ps yanked db h t
