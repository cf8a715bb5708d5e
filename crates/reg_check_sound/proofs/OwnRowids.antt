-- Rows whose ids are counted have rowids of their own.
use Rattle.reg_check_sound.proofs.Words.{◌≡◌, ◌==◌, ◌+◌, ◌<◌, arith, ℕ, pos, List, [], ◌∷◌, map, true, false, refl, sym, ap, AllByRecursion}
use Rattle.reg_check_sound.proofs.Words.{and_parts, ne_eqb, IsDistinct-IsPermutation, all_from_map, all-map, all-permutation, all_weaker}
use Rattle.reg_check_sound.proofs.Words.{distinct_from_map, in_each, same_at}
use Rattle.std.specs.List.{IsDistinct}
use Rattle.std.proofs.lemmas.Bool.{eqb-true}
use Rattle.reg_check_sound.proofs.Common.{are_counted, by_column, column, Int, is_null, IsInOrder, IsPermutation-sym, Row, rowid, same_number, shows}
use Rattle.reg_tables_represent.specs.Numbers.{AreNumbered, IsNumbered}
use Rattle.reg_check_sound.proofs.RowKeys.{HaveRowids}
use Rattle.reg_check_sound.proofs.Shown.{shown_permutes}
use Rattle.reg_check_sound.proofs.Uniques.{distinct_map, distinct_so, value_flips}

-- a rowid that is a number is there
pub numbered_there : (rows : List Row) → AreNumbered rows → AllByRecursion (λ r. is_null (rowid r) ≡ false) rows
numbered_there = all_weaker IsNumbered (λ r. is_null (rowid r) ≡ false) (λ r is. ap is_null is)

module _ {X : Type 0} (id : X → ℕ) where
  counted_above : (low n : ℕ) (xs : List X) → low < n → are_counted n (map id xs) ≡ true → AllByRecursion (λ y. (low == id y) ≡ false) xs
  counted_above low n [] below h = tt
  counted_above low n (y ∷ ys) below h =
      let p = and_parts (id y == n) (are_counted (n + 1) (map id ys)) h in
      let at = eqb-true (id y) n p.0 in
      (ne_eqb low (id y) (λ e. absurd (omega (arith, below, at, e))), counted_above low (n + 1) ys (omega (arith, below)) p.1)

  counted_apart : (n : ℕ) (xs : List X) → are_counted n (map id xs) ≡ true → IsDistinct (λ a b. id a == id b) xs
  unfolding IsDistinct
  counted_apart n [] h = tt
  counted_apart n (x ∷ xs) h =
      let p = and_parts (id x == n) (are_counted (n + 1) (map id xs)) h in
      let at = eqb-true (id x) n p.0 in
      (counted_above (id x) (n + 1) xs (omega (arith, at)) p.1, counted_apart (n + 1) xs p.1)

  module _ (behind : X → Row) (places : List ℕ) (rows : List Row) (list : List X) (found : IsInOrder (by_column 0) rows (shows (0 ∷ places)) (map (λ x. Int (pos (id x)) ∷ behind x) list)) where
    abbrev row : X → Row
    row x = Int (pos (id x)) ∷ behind x

    abbrev show : Row → Row
    show = shows (0 ∷ places)

    pub rowids_there : AllByRecursion (λ r. is_null (rowid r) ≡ false) rows
    rowids_there =
        let there = λ (r : Row). is_null (rowid r) ≡ false in
        let listed = all-map there row list (in_each (λ x. there (row x)) list (λ x i. refl)) in
        let back = IsPermutation-sym (map show rows) (map row list) (shown_permutes (by_column 0) rows show (map row list) found) in
        all_from_map there show rows (all-permutation there (map row list) (map show rows) back listed)

    pub own_rowids : are_counted 1 (map id list) ≡ true → HaveRowids rows
    own_rowids counted =
        let apart = distinct_so (λ a b. id a == id b) (λ a b. same_at 0 (row a) (row b)) (λ a b. sym (same_number (id a) (id b))) list (counted_apart 1 list counted) in
        let back = IsPermutation-sym (map show rows) (map row list) (shown_permutes (by_column 0) rows show (map row list) found) in
        distinct_from_map (same_at 0) show rows (IsDistinct-IsPermutation (same_at 0) (λ a b. value_flips (column a 0) (column b 0)) (map row list) (map show rows) back (distinct_map (same_at 0) row list apart))
