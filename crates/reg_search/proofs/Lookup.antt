-- A binary search finds a number that is there.
use Rattle.std.proofs.Common.{◌≡◌, ◌⊎◌, ◌==◌, ℕ, zero, suc, ◌<◌, true, false, ◌||◌, List, [], ◌∷◌, length, get_or, Ok, Err, Result, Less, Equal, Greater, inl, inr, refl, sym, arith}
use Rattle.std.specs.Prelude.{is_ok}
use Rattle.std.specs.List.{list_any}
use Rattle.std.specs.List.Sorted.{IsBinarySearchResult, IsSearchInRange, IsSorted}
use Rattle.std.specs.Ordering.{nat_cmp}
use Rattle.std.specs.Cmp.{nat_cmp_total}
use Rattle.std.proofs.lemmas.Bool.{cases_lt, eq-eqb, eqb-true}
use Rattle.std.proofs.lemmas.Cmp.{ranked}
use Rattle.std.proofs.lemmas.List.Sorted.{searchable_from_sorted}
use Rattle.reg_model.proofs.Lists.{not_true, or_left, or_right}

module _ (x : ℕ) where
  there : (xs : List ℕ) (i : ℕ) → i < length xs → ((d : ℕ) → nat_cmp (get_or xs i d) x ≡ Equal) → list_any (λ n. n == x) xs ≡ true
  there [] i lt at = absurd (omega (arith, lt))
  there (y ∷ ys) zero lt at = or_left (y == x) _ (eq-eqb y x (ranked y x Equal (sym (at 0))))
  there (y ∷ ys) (suc i) lt at = or_right (y == x) _ (there ys i (omega (arith, lt)) at)

  nowhere : (xs : List ℕ) → ((k d : ℕ) → k < length xs → get_or xs k d ≡ x → ⊥) → list_any (λ n. n == x) xs ≡ false
  nowhere [] h = refl
  nowhere (y ∷ ys) h =
      let first = not_true (y == x) (λ e. h 0 0 (omega arith) (eqb-true y x e)) in
      let rest = nowhere ys (λ k d lt. h (suc k) d (omega (arith, lt))) in
      λ i. first i || rest i

  pub looked_up : (xs : List ℕ) (r : Result ℕ ℕ) → IsSorted nat_cmp xs → IsSearchInRange r (length xs) → IsBinarySearchResult (λ y. nat_cmp y x) xs r → is_ok r ≡ list_any (λ n. n == x) xs
  looked_up xs (Ok i) up lt at = sym (there xs i lt at)
  looked_up xs (Err i) up le parted =
      let parts = parted (searchable_from_sorted nat_cmp_total (λ y. y) xs x up) in
      sym (nowhere xs (λ k d lt e. apart (get_or xs k d) e (cases_lt k i) (λ b. ranked _ x Less (sym (parts.0 k d (omega arith) b))) (λ a. ranked _ x Greater (sym (parts.1 k d a lt)))))
    where
      apart : (y : ℕ) {A B : Type 0} → y ≡ x → A ⊎ B → (A → y < x) → (B → x < y) → ⊥
      apart y e (inl a) low high = omega (arith, e, low a)
      apart y e (inr b) low high = omega (arith, e, high b)
