-- What is shown of rows in an order, told of what the rows stand for.
use Rattle.reg_check_sound.proofs.Words.{◌≡◌, inl, inr, ℕ, pos, Less, List, [], ◌∷◌, map, refl, sym, ap₂, subst, IsPermutation, Ordering}
use Rattle.reg_check_sound.proofs.Words.{IsPermutation-map, IsAscending, all_from_map, ascending-map, number_below, same_head, same_tail}
use Rattle.reg_check_sound.proofs.Common.{by_column, drop, Int, IsIn, IsInOrder, nat_cmp, Row, shows}
use Rattle.std.specs.List.Sorted.{IsStrictlySortedBy}
use Rattle.sqlite_trees.proofs.ListLemmas.{ascending_weaker}
use Rattle.reg_tables_represent.proofs.VersionEntries.{less_is}

module _ {X : Type 0} (id : X → ℕ) (behind : X → Row) where
  pairs_rise : (xs : List X) → IsStrictlySortedBy nat_cmp (map id xs) → IsAscending (λ x y. nat_cmp (id x) (id y) ≡ Less) xs
  unfolding IsStrictlySortedBy
  pairs_rise [] h = tt
  pairs_rise (x ∷ xs) h = (all_from_map (λ n. nat_cmp (id x) n ≡ Less) id xs h.0, pairs_rise xs h.1)

  -- rows whose ids rise
  pub rows_rise : (xs : List X) → IsStrictlySortedBy nat_cmp (map id xs) → IsAscending (λ a b. by_column 0 a b ≡ Less) (map (λ x. Int (pos (id x)) ∷ behind x) xs)
  rows_rise xs up =
      let row = λ (x : X). Int (pos (id x)) ∷ behind x in
      let below = λ (x : X) (y : X) (e : nat_cmp (id x) (id y) ≡ Less). number_below (id x) (id y) (less_is (id x) (id y) e) in
      ascending-map (λ a b. by_column 0 a b ≡ Less) row xs (ascending_weaker (λ x y. nat_cmp (id x) (id y) ≡ Less) (λ x y. by_column 0 (row x) (row y) ≡ Less) below xs (pairs_rise xs up))

-- what is shown of all rows
pub shown_permutes : (order : Row → Row → Ordering) (rows : List Row) (show : Row → Row) (out : List Row) → IsInOrder order rows show out → IsPermutation (map show rows) out
shown_permutes order rows show out h = subst (IsPermutation (map show rows)) (sym h.shown) (IsPermutation-map show rows h.ordered h.same)

two_columns : (r : Row) → shows (1 ∷ 2 ∷ []) r ≡ shows (0 ∷ 1 ∷ []) (drop 1 r)
two_columns [] = refl
two_columns (v ∷ r) = refl

one_column : (r : Row) → shows (1 ∷ []) r ≡ shows (0 ∷ []) (drop 1 r)
one_column [] = refl
one_column (v ∷ r) = refl

-- what is shown behind the rowids
pub two_of_each : (rows : List Row) → map (shows (1 ∷ 2 ∷ [])) rows ≡ map (shows (0 ∷ 1 ∷ [])) (map (drop 1) rows)
two_of_each [] = refl
two_of_each (r ∷ rows) = ap₂ ◌∷◌ (two_columns r) (two_of_each rows)

pub one_of_each : (rows : List Row) → map (shows (1 ∷ [])) rows ≡ map (shows (0 ∷ [])) (map (drop 1) rows)
one_of_each [] = refl
one_of_each (r ∷ rows) = ap₂ ◌∷◌ (one_column r) (one_of_each rows)

-- lists of two images that are one have one image of each element
pub pointwise : {X Y : Type 0} (f g : X → Y) (xs : List X) → map f xs ≡ map g xs → (x : X) → IsIn x xs → f x ≡ g x
pointwise f g [] h x i = absurd i
pointwise f g (y ∷ ys) h x (inl e) = subst (λ z. f z ≡ g z) e (same_head h)
pointwise f g (y ∷ ys) h x (inr i) = pointwise f g ys (same_tail h) x i
