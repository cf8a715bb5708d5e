-- Ids that are listed in order, and of which no two are one, rise.
use Rattle.reg_check_sound.proofs.Words.{◌≡◌, ◌==◌, inl, inr, ℕ, pos, List, [], ◌∷◌, map, false, refl, sym, ap, subst, ◌∙◌, Less, Equal}
use Rattle.reg_check_sound.proofs.Words.{Greater, AllByRecursion, nat_cmp, Row, value_cmp, IsAscending, ascending-map, value_cmp_total}
use Rattle.reg_check_sound.proofs.Words.{column_total, number_below}
use Rattle.std.specs.List.{IsDistinct}
use Rattle.std.specs.List.Sorted.{IsStrictlySortedBy}
use Rattle.std.specs.Ordering.{is_gt, ordering_reverse}
use Rattle.std.specs.Cmp.{unsigned_tied, nat_cmp_is}
use Rattle.std.proofs.lemmas.Cmp.{tied_itself}
use Rattle.std.proofs.lemmas.Bool.{cases_order}
use Rattle.reg_check_sound.proofs.Common.{by_column, Int, IsInOrder, shows}
use Rattle.sqlite_exec.proofs.PartitionLemmas.{ascending_from_sorted}
use Rattle.sqlite_trees.proofs.ListLemmas.{ascending_from_map}
use Rattle.reg_tables_represent.proofs.AllCrates.{rises}

-- SQL's order of numbers is that of the numbers
numbers : (n m : ℕ) → value_cmp (Int (pos n)) (Int (pos m)) ≡ nat_cmp n m
numbers n m = elim (cases_order n m) [
  | inl e ↦ subst (λ k. value_cmp (Int (pos n)) (Int (pos k)) ≡ nat_cmp n k) e (tied_itself value_cmp_total (Int (pos n)) ∙ nat_cmp_is n n Equal refl)
  | inr o ↦ elim o [
    | inl below ↦ number_below n m below ∙ nat_cmp_is n m Less below
    | inr above ↦ value_cmp_total.antisymm (Int (pos n)) (Int (pos m)) ∙ ap ordering_reverse (number_below m n above) ∙ nat_cmp_is n m Greater above
  ]
]

module _ {X : Type 0} (id : X → ℕ) where
  rise_on : (n : ℕ) (xs : List X) → AllByRecursion (λ x. is_gt (value_cmp (Int (pos n)) (Int (pos (id x)))) ≡ false) xs → AllByRecursion (λ x. (n == id x) ≡ false) xs → AllByRecursion (λ m. nat_cmp n m ≡ Less) (map id xs)
  rise_on n [] up apart = tt
  rise_on n (x ∷ xs) up apart = (rises (nat_cmp n (id x)) (ap is_gt (sym (numbers n (id x))) ∙ up.0) (unsigned_tied n (id x) ∙ apart.0), rise_on n xs up.1 apart.1)

  ids_rise : (xs : List X) → IsAscending (λ x y. is_gt (value_cmp (Int (pos (id x))) (Int (pos (id y)))) ≡ false) xs → IsDistinct (λ x y. id x == id y) xs → IsStrictlySortedBy nat_cmp (map id xs)
  unfolding IsStrictlySortedBy IsDistinct
  ids_rise [] up apart = tt
  ids_rise (x ∷ xs) up apart = (rise_on (id x) xs up.0 apart.0, ids_rise xs up.1 apart.1)

  -- records that show their ids first, in order
  pub listed_rise : (behind : X → Row) (places : List ℕ) (rows : List Row) (list : List X) → IsInOrder (by_column 0) rows (shows (0 ∷ places)) (map (λ x. Int (pos (id x)) ∷ behind x) list) → IsDistinct (λ x y. id x == id y) list
      → IsStrictlySortedBy nat_cmp (map id list)
  listed_rise behind places rows list h apart =
      let up = ascending_from_sorted (by_column 0) (column_total 0) h.ordered h.sorted in
      let shown = ascending-map (λ a b. is_gt (by_column 0 a b) ≡ false) (shows (0 ∷ places)) h.ordered up in
      let listed = subst (IsAscending (λ a b. is_gt (by_column 0 a b) ≡ false)) (sym h.shown) shown in
      ids_rise list (ascending_from_map (λ a b. is_gt (by_column 0 a b) ≡ false) (λ x. Int (pos (id x)) ∷ behind x) list listed) apart
