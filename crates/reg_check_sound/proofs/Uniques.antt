-- Rows without equals are of elements without equals.
use Rattle.reg_check_sound.proofs.Words.{◌&&◌, cond, filter, AllByRecursion, enumerate_from, find, IsDistinct-IsPermutation, Value, same_head}
use Rattle.reg_check_sound.proofs.Words.{value_cmp_total, HaveOwnRowids, IsIn, distinct_from_map, same_at, same_value, AreUnique}
use Rattle.reg_check_sound.proofs.Common.{◌≡◌, ◌+◌, [], ◌∷◌, ◌∙◌, ap, Bool, column, false, inl, inr, Int, IsPermutation, IsPermutation-sym, List, map, pos, refl, Row, rowid, same_number, Some, sym, true, ℕ}
use Rattle.std.specs.Prelude.{◌==◌}
use Rattle.std.specs.List.{IsDistinct}
use Rattle.std.specs.Cmp.{eq_by_cmp_equiv}

pub value_flips : (a b : Value) → same_value a b ≡ same_value b a
value_flips a b = (eq_by_cmp_equiv value_cmp_total).symm a b

pub distinct_so : {X : Type 0} (e g : X → X → Bool) → ((x y : X) → e x y ≡ g x y) → (xs : List X) → IsDistinct e xs → IsDistinct g xs
unfolding IsDistinct
distinct_so {X} e g same [] h = tt
distinct_so {X} e g same (x ∷ xs) h = (each xs h.0, distinct_so e g same xs h.1)
  where
    each : (ys : List X) → AllByRecursion (λ y. e x y ≡ false) ys → AllByRecursion (λ y. g x y ≡ false) ys
    each [] k = tt
    each (y ∷ ys) k = (sym (same x y) ∙ k.0, each ys k.1)

-- the same, where the tests agree on the elements
pub distinct_on : {X : Type 0} (e g : X → X → Bool) (xs : List X) → ((x y : X) → IsIn x xs → IsIn y xs → e x y ≡ g x y) → IsDistinct e xs → IsDistinct g xs
unfolding IsDistinct
distinct_on {X} e g [] same h = tt
distinct_on {X} e g (x ∷ xs) same h = (each xs (λ y i. same x y (inl refl) (inr i)) h.0, distinct_on e g xs (λ y z i j. same y z (inr i) (inr j)) h.1)
  where
    each : (ys : List X) → ((y : X) → IsIn y ys → e x y ≡ g x y) → AllByRecursion (λ y. e x y ≡ false) ys → AllByRecursion (λ y. g x y ≡ false) ys
    each [] alike k = tt
    each (y ∷ ys) alike k = (sym (alike y (inl refl)) ∙ k.0, each ys (λ z i. alike z (inr i)) k.1)

pub distinct_map : {X Y : Type 0} (e : Y → Y → Bool) (f : X → Y) (xs : List X) → IsDistinct (λ a b. e (f a) (f b)) xs → IsDistinct e (map f xs)
unfolding IsDistinct
distinct_map {X} e f [] h = tt
distinct_map {X} e f (x ∷ xs) h = (each xs h.0, distinct_map e f xs h.1)
  where
    each : (ys : List X) → AllByRecursion (λ y. e (f x) (f y) ≡ false) ys → AllByRecursion (λ z. e (f x) z ≡ false) (map f ys)
    each [] k = tt
    each (y ∷ ys) k = (k.0, each ys k.1)

module _ {X : Type 0} (row : X → Row) (xs : List X) (rows : List Row) (same : IsPermutation (map row xs) rows) where
  pub unique_so : (place : ℕ) (g : X → X → Bool) → ((x y : X) → same_value (column (row x) place) (column (row y) place) ≡ g x y) → AreUnique place rows → IsDistinct g xs
  unique_so place g alike h =
      let test : Row → Row → Bool = λ a b. same_value (column a place) (column b place) in
      let moved = IsDistinct-IsPermutation test (λ a b. value_flips (column a place) (column b place)) rows (map row xs) (IsPermutation-sym (map row xs) rows same) h in
      distinct_so (λ x y. test (row x) (row y)) g alike xs (distinct_from_map test row xs moved)

  pub pairs_so : (test : Row → Row → Bool) (g : X → X → Bool) → ((a b : Row) → test a b ≡ test b a) → ((x y : X) → test (row x) (row y) ≡ g x y) → IsDistinct test rows → IsDistinct g xs
  pairs_so test g turns alike h =
      distinct_so (λ x y. test (row x) (row y)) g alike xs (distinct_from_map test row xs (IsDistinct-IsPermutation test turns rows (map row xs) (IsPermutation-sym (map row xs) rows same) h))

  -- rows with rowids of their own
  pub own_so : (g : X → X → Bool) → ((x y : X) → same_value (rowid (row x)) (rowid (row y)) ≡ g x y) → HaveOwnRowids rows → IsDistinct g xs
  own_so g alike own = pairs_so (λ a b. same_value (rowid a) (rowid b)) g (λ a b. value_flips (rowid a) (rowid b)) alike own.0

pub found_of_filter : {X : Type 0} (p : X → Bool) (xs : List X) (x : X) → filter p xs ≡ x ∷ [] → find p xs ≡ Some x
found_of_filter p [] x h = absurd cc
found_of_filter p (y ∷ ys) x h = split (p y) h (found_of_filter p ys x)
  where
    split : (b : Bool) → cond b (y ∷ filter p ys) (filter p ys) ≡ x ∷ [] → (filter p ys ≡ x ∷ [] → find p ys ≡ Some x) → cond b (Some y) (find p ys) ≡ Some x
    split true e rest = ap Some (same_head e)
    split false e rest = rest e

-- places have the marks that their elements have
pub values_apart : {X : Type 0} (e : X → X → Bool) (n : ℕ) (xs : List X) → IsDistinct (λ a b. e a.1 b.1) (enumerate_from n xs) → IsDistinct e xs
unfolding IsDistinct
values_apart {X} e n [] h = tt
values_apart {X} e n (x ∷ xs) h = (below (n + 1) xs h.0, values_apart e (n + 1) xs h.1)
  where
    below : (n : ℕ) (ys : List X) → AllByRecursion (λ b. e x b.1 ≡ false) (enumerate_from n ys) → AllByRecursion (λ y. e x y ≡ false) ys
    below n [] k = tt
    below n (y ∷ ys) k = (k.0, below (n + 1) ys k.1)

pub number_flips : (n m : ℕ) → (n == m) ≡ (m == n)
number_flips n m = sym (same_number n m) ∙ value_flips (Int (pos n)) (Int (pos m)) ∙ same_number m n

pub same_at_flips : (first second : ℕ) (a b : Row) → (same_at first a b && same_at second a b) ≡ (same_at first b a && same_at second b a)
same_at_flips first second a b = λ i. value_flips (column a first) (column b first) i && value_flips (column a second) (column b second) i
