-- Ids, and lists of which one element is changed.
use Rattle.reg_model.proofs.Words.{◌≡◌, ℕ, zero, suc, ◌+◌, ◌-◌, ◌≤◌, ◌==◌, List, [], ◌∷◌, ◌++◌, Bool, true, false, cond, Some, None, refl}
use Rattle.reg_model.proofs.Words.{◌∙◌, ap, arith, ◌&&◌, is_some, slice_get, list_all, position_from, AllByRecursion, nat_tests, with_id}
use Rattle.reg_model.proofs.Words.{change_place, change_at}
use Rattle.std.specs.List.{IsDistinct}

module _ {X : Type 0} (f : X → X) where
  all_changed : (p : X → Bool) → ((x : X) → p (f x) ≡ p x) → (i : ℕ) (xs : List X) → list_all p (change_place f i xs) ≡ list_all p xs
  all_changed p same i [] = refl
  all_changed p same zero (x ∷ xs) = ap (λ b. b && list_all p xs) (same x)
  all_changed p same (suc i) (x ∷ xs) = ap (λ b. p x && b) (all_changed p same i xs)

  there_changed : (i : ℕ) (xs : List X) (j : ℕ) → is_some (slice_get (change_place f i xs) j) ≡ is_some (slice_get xs j)
  there_changed i [] j = refl
  there_changed zero (x ∷ xs) zero = refl
  there_changed zero (x ∷ xs) (suc j) = refl
  there_changed (suc i) (x ∷ xs) zero = refl
  there_changed (suc i) (x ∷ xs) (suc j) = there_changed i xs j

  each_changed : (P : X → Type 0) → ((x : X) → P x → P (f x)) → (i : ℕ) (xs : List X) → AllByRecursion P xs → AllByRecursion P (change_place f i xs)
  each_changed P so i [] h = h
  each_changed P so zero (x ∷ xs) (h, rest) = (so x h, rest)
  each_changed P so (suc i) (x ∷ xs) (h, rest) = (h, each_changed P so i xs rest)

  each_so : (P Q : X → Type 0) → ((x : X) → P x → Q x) → (xs : List X) → AllByRecursion P xs → AllByRecursion Q xs
  each_so P Q so [] h = h
  each_so P Q so (x ∷ xs) (h, rest) = (so x h, each_so P Q so xs rest)

  distinct_changed : (e : X → X → Bool) → ((x y : X) → e (f x) y ≡ e x y) → ((x y : X) → e x (f y) ≡ e x y) → (i : ℕ) (xs : List X) → IsDistinct e xs → IsDistinct e (change_place f i xs)
  unfolding IsDistinct
  distinct_changed e left right i [] h = h
  distinct_changed e left right zero (x ∷ xs) (h, rest) = (each_so (λ y. e x y ≡ false) (λ y. e (f x) y ≡ false) (λ y k. left x y ∙ k) xs h, rest)
  distinct_changed e left right (suc i) (x ∷ xs) (h, rest) = (each_changed (λ y. e x y ≡ false) (λ y k. right x y ∙ k) i xs h, distinct_changed e left right i xs rest)

  either : (Q : List X → Type 0) (b : Bool) (xs ys : List X) → Q xs → Q ys → Q (cond b xs ys)
  either Q true xs ys h k = h
  either Q false xs ys h k = k

  pub all_changed_at : (p : X → Bool) → ((x : X) → p (f x) ≡ p x) → (id : ℕ) (xs : List X) → list_all p xs ≡ true → list_all p (change_at f id xs) ≡ true
  all_changed_at p same id xs h = either (λ l. list_all p l ≡ true) (id == 0) xs (change_place f (id - 1) xs) h (all_changed p same (id - 1) xs ∙ h)

  pub distinct_changed_at : (e : X → X → Bool) → ((x y : X) → e (f x) y ≡ e x y) → ((x y : X) → e x (f y) ≡ e x y) → (id : ℕ) (xs : List X) → IsDistinct e xs → IsDistinct e (change_at f id xs)
  distinct_changed_at e left right id xs h = either (IsDistinct e) (id == 0) xs (change_place f (id - 1) xs) h (distinct_changed e left right (id - 1) xs h)

  pub there_changed_at : (id : ℕ) (xs : List X) (j : ℕ) → is_some (slice_get xs j) ≡ true → is_some (slice_get (change_at f id xs) j) ≡ true
  there_changed_at id xs j h = either (λ l. is_some (slice_get l j) ≡ true) (id == 0) xs (change_place f (id - 1) xs) h (there_changed (id - 1) xs j ∙ h)

pub there_more : {X : Type 0} (xs ys : List X) (j : ℕ) → is_some (slice_get xs j) ≡ true → is_some (slice_get (xs ++ ys) j) ≡ true
there_more [] ys j h = cc
there_more (x ∷ xs) ys zero h = refl
there_more (x ∷ xs) ys (suc j) h = there_more xs ys j h

-- ids stay where places do
pub ids_stay : {X : Type 0} (xs ys : List X) → ((j : ℕ) → is_some (slice_get xs j) ≡ true → is_some (slice_get ys j) ≡ true) → (id : ℕ) → is_some (with_id xs id) ≡ true → is_some (with_id ys id) ≡ true
ids_stay xs ys stay id h = elim (id == 0) as (λ b. is_some (cond b None (slice_get xs (id - 1))) ≡ true → is_some (cond b None (slice_get ys (id - 1))) ≡ true) [ true ↦ λ k. k | false ↦ λ k. stay (id - 1) k ] h

not_zero : (id : ℕ) → 1 ≤ id → (id == 0) ≡ false
not_zero id h = grind (arith, nat_tests)

pub at_id : {X : Type 0} (xs : List X) (id : ℕ) (x : X) → 1 ≤ id → slice_get xs (id - 1) ≡ Some x → with_id xs id ≡ Some x
at_id xs id x h e = ap (λ b. cond b None (slice_get xs (id - 1))) (not_zero id h) ∙ e

-- what a position says: where it is, and what stands there
pub record Position {X : Type 0} (p : X → Bool) (xs : List X) (k id : ℕ) : Type 0 where
  pub from : k ≤ id
  pub one : X
  pub there : slice_get xs (id - k) ≡ Some one
  pub passes : p one ≡ true

pub position : {X : Type 0} (p : X → Bool) (xs : List X) (k id : ℕ) → position_from p k xs ≡ Some id → Position p xs k id
position p [] k id e = cc
position p (x ∷ xs) k id e =
    elim (p x) as (λ b. p x ≡ b → cond b (Some k) (position_from p (k + 1) xs) ≡ Some id → Position p (x ∷ xs) k id) [
      | true ↦ λ h f. let same : k ≡ id = cc in record { from = omega arith; one = x; there = ap (slice_get (x ∷ xs)) (first k id same); passes = h }
      | false ↦ λ h f. let l = position p xs (k + 1) id f in record { from = let m = l.from in omega arith; one = l.one; there = ap (slice_get (x ∷ xs)) (later k id l.from) ∙ l.there; passes = l.passes }
    ] refl e
  where
    first : (k id : ℕ) → k ≡ id → id - k ≡ zero
    first k id e = omega arith

    later : (k id : ℕ) → k + 1 ≤ id → id - k ≡ suc (id - (k + 1))
    later k id h = omega arith

-- an id that is found for a test is that of one that passes it
pub found_id : {X : Type 0} (p : X → Bool) (xs : List X) (id : ℕ) → position_from p 1 xs ≡ Some id → (x : X) × (with_id xs id ≡ Some x) × (p x ≡ true)
found_id p xs id e = let l = position p xs 1 id e in (l.one, at_id xs id l.one l.from l.there, l.passes)

pub found_there : {X : Type 0} (p : X → Bool) (xs : List X) (id : ℕ) → position_from p 1 xs ≡ Some id → is_some (with_id xs id) ≡ true
found_there p xs id e = ap is_some (found_id p xs id e).1
