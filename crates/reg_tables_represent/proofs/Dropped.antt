-- Rows of a table without a key, whose rowids SQL chose: what a selection in order shows of their columns.
use Rattle.reg_tables_represent.proofs.Words.{◌≡◌, List, [], ◌∷◌, map, Less, refl, ap, ap₂, subst, ◌∙◌, IsPermutation, IsSorted}
use Rattle.reg_tables_represent.proofs.Words.{ordering_then, IsTotalOrder, sorted_unique, IsInOrder, by_column, by_columns}
use Rattle.reg_tables_represent.proofs.Common.{AllByRecursion, drop, IsAscending, IsPermutation-map, IsPermutation-trans, Row, shows, value_cmp}
use Rattle.std.specs.declared.cmp.Ordering.{Ordering}
use Rattle.sqlite_exec.proofs.RowsLemmas.{IsSorted-map}
use Rattle.reg_tables_represent.proofs.Rowids.{first_column, second_column}

abbrev without_id : Row → Row
without_id r = drop 1 r

five_columns : (r : Row) → shows (1 ∷ 2 ∷ 3 ∷ 4 ∷ 5 ∷ []) r ≡ shows (0 ∷ 1 ∷ 2 ∷ 3 ∷ 4 ∷ []) (drop 1 r)
five_columns [] = refl
five_columns (v ∷ r) = refl

pub by_second : (a b : Row) → by_column 2 a b ≡ by_column 1 (drop 1 a) (drop 1 b)
by_second a b = ap₂ value_cmp (second_column a) (second_column b)

pub by_first_and_second : (a b : Row) → by_columns 1 2 a b ≡ by_columns 0 1 (drop 1 a) (drop 1 b)
by_first_and_second a b = ap₂ ordering_then (ap₂ value_cmp (first_column a) (first_column b)) (by_second a b)

shown_all : (rows : List Row) → AllByRecursion (λ r. shows (0 ∷ 1 ∷ 2 ∷ 3 ∷ 4 ∷ []) r ≡ r) rows → map (shows (0 ∷ 1 ∷ 2 ∷ 3 ∷ 4 ∷ [])) rows ≡ rows
shown_all [] h = refl
shown_all (r ∷ rows) h = ap₂ ◌∷◌ h.0 (shown_all rows h.1)

shown_of_dropped : (rows : List Row) → map (shows (1 ∷ 2 ∷ 3 ∷ 4 ∷ 5 ∷ [])) rows ≡ map (shows (0 ∷ 1 ∷ 2 ∷ 3 ∷ 4 ∷ [])) (map without_id rows)
shown_of_dropped [] = refl
shown_of_dropped (r ∷ rows) = ap₂ ◌∷◌ (five_columns r) (shown_of_dropped rows)

module _ (by by_columns_of : Row → Row → Ordering) (same : (a b : Row) → by a b ≡ by_columns_of (drop 1 a) (drop 1 b)) (total : IsTotalOrder by_columns_of) where
  -- rows of five columns, of which no two are alike in the order, are shown as they are
  pub dropped_in_order : (columns rows out : List Row) → IsPermutation columns (map without_id rows) → IsAscending (λ a b. by_columns_of a b ≡ Less) columns → AllByRecursion (λ r. shows (0 ∷ 1 ∷ 2 ∷ 3 ∷ 4 ∷ []) r ≡ r) columns
      → IsInOrder by rows (shows (1 ∷ 2 ∷ 3 ∷ 4 ∷ 5 ∷ [])) out → out ≡ columns
  dropped_in_order columns rows out stand rising whole h =
      let moved = IsPermutation-map without_id rows h.ordered h.same in
      let sorted = IsSorted-map by_columns_of without_id h.ordered (subst (λ (o : Row → Row → Ordering). IsSorted o h.ordered) (λ i a b. same a b i) h.sorted) in
      let all : map without_id h.ordered ≡ columns = sorted_unique by_columns_of total columns (map without_id h.ordered) rising (IsPermutation-trans columns (map without_id rows) (map without_id h.ordered) stand moved) sorted in
      h.shown ∙ shown_of_dropped h.ordered ∙ ap (map (shows (0 ∷ 1 ∷ 2 ∷ 3 ∷ 4 ∷ []))) all ∙ shown_all columns whole
