-- The elements of a list, and what passes a test among them.
use Rattle.reg_model.proofs.Words.{◌≡◌, ◌⊎◌, inl, inr, List, [], ◌∷◌, ◌++◌, map, Bool, true, false, cond, refl, sym, ap, subst, ◌∙◌, ◌||◌}
use Rattle.reg_model.proofs.Words.{filter, list_any, list_all, AllByRecursion, on, and_parts, and_from, All-from_recursion}
use Rattle.std.specs.List.{IsDistinct}
use Rattle.std.specs.List.Sorted.{IsPermutation}
use Rattle.std.proofs.lemmas.List.Elements.{recursion_from_All}
use Rattle.std.proofs.lemmas.List.Sorted.{All-permutation, IsPermutation-sym}
pub use Rattle.reg_model.specs.Lists.{IsIn}
use Rattle.reg_model.proofs.Lists.{or_left, or_right, or_split, true_not_false}

module _ {X : Type 0} where
  pub any_in : (p : X → Bool) (xs : List X) → list_any p xs ≡ true → (x : X) × IsIn x xs × (p x ≡ true)
  any_in p [] h = absurd cc
  any_in p (x ∷ xs) h =
      or_split (p x) (list_any p xs) h (λ here. (x, inl refl, here)) (λ later. let r = any_in p xs later in (r.0, inr r.1, r.2))

  pub in_any : (p : X → Bool) (xs : List X) (x : X) → IsIn x xs → p x ≡ true → list_any p xs ≡ true
  in_any p [] x i h = absurd i
  in_any p (y ∷ ys) x (inl e) h = or_left _ _ (ap p e ∙ h)
  in_any p (y ∷ ys) x (inr i) h = or_right (p y) _ (in_any p ys x i h)

  pub none_in : (p : X → Bool) (xs : List X) → ((x : X) → IsIn x xs → p x ≡ false) → list_any p xs ≡ false
  none_in p [] h = refl
  none_in p (x ∷ xs) h = ap (λ b. b || list_any p xs) (h x (inl refl)) ∙ none_in p xs (λ y i. h y (inr i))

  pub all_in : (p : X → Bool) (xs : List X) (x : X) → list_all p xs ≡ true → IsIn x xs → p x ≡ true
  all_in p [] x h i = absurd i
  all_in p (y ∷ ys) x h (inl e) = ap p (sym e) ∙ (and_parts (p y) _ h).0
  all_in p (y ∷ ys) x h (inr i) = all_in p ys x (and_parts (p y) _ h).1 i

  pub in_all : (p : X → Bool) (xs : List X) → ((x : X) → IsIn x xs → p x ≡ true) → list_all p xs ≡ true
  in_all p [] h = refl
  in_all p (x ∷ xs) h = and_from (p x) _ (h x (inl refl)) (in_all p xs (λ y i. h y (inr i)))

  pub each_in : (P : X → Type 0) (xs : List X) (x : X) → AllByRecursion P xs → IsIn x xs → P x
  each_in P [] x h i = absurd i
  each_in P (y ∷ ys) x h (inl e) = subst P e h.0
  each_in P (y ∷ ys) x h (inr i) = each_in P ys x h.1 i

  pub in_each : (P : X → Type 0) (xs : List X) → ((x : X) → IsIn x xs → P x) → AllByRecursion P xs
  in_each P [] h = tt
  in_each P (x ∷ xs) h = (h x (inl refl), in_each P xs (λ y i. h y (inr i)))

  pub in_permuted : (xs ys : List X) (x : X) → IsPermutation xs ys → IsIn x xs → IsIn x ys
  in_permuted xs ys x same i =
      let P : X → Type 0 = λ y. IsIn y ys in
      let each = All-from_recursion P ys (in_each P ys (λ y j. j)) in
      each_in P xs x (recursion_from_All P xs (All-permutation P ys xs (IsPermutation-sym xs ys same) each)) i

  in_cond : (b : Bool) (y x : X) (xs : List X) → IsIn x (cond b (y ∷ xs) xs) → IsIn x (y ∷ xs)
  in_cond true y x xs i = i
  in_cond false y x xs i = inr i

  pub in_filter : (p : X → Bool) (xs : List X) (x : X) → IsIn x (filter p xs) → IsIn x xs
  in_filter p [] x i = absurd i
  in_filter p (y ∷ ys) x i = behind (in_cond (p y) y x (filter p ys) i) (in_filter p ys x)
    where
      behind : IsIn x (y ∷ filter p ys) → (IsIn x (filter p ys) → IsIn x ys) → IsIn x (y ∷ ys)
      behind (inl e) rest = inl e
      behind (inr j) rest = inr (rest j)

  pub in_more : (xs ys : List X) (x : X) → IsIn x xs → IsIn x (xs ++ ys)
  in_more [] ys x i = absurd i
  in_more (z ∷ zs) ys x (inl e) = inl e
  in_more (z ∷ zs) ys x (inr i) = inr (in_more zs ys x i)

  pub in_last : (xs : List X) (x : X) → IsIn x (xs ++ x ∷ [])
  in_last [] x = inl refl
  in_last (y ∷ xs) x = inr (in_last xs x)

  pub pushed_in : (xs : List X) (y x : X) → IsIn x (xs ++ y ∷ []) → IsIn x xs ⊎ (y ≡ x)
  pushed_in [] y x (inl e) = inr e
  pushed_in [] y x (inr i) = absurd i
  pushed_in (z ∷ zs) y x (inl e) = inl (inl e)
  pushed_in (z ∷ zs) y x (inr i) = either (pushed_in zs y x i)
    where
      either : IsIn x zs ⊎ (y ≡ x) → IsIn x (z ∷ zs) ⊎ (y ≡ x)
      either (inl j) = inl (inr j)
      either (inr e) = inr e

pub in_map : {X Y : Type 0} (f : X → Y) (xs : List X) (x : X) → IsIn x xs → IsIn (f x) (map f xs)
in_map f [] x i = absurd i
in_map f (y ∷ ys) x (inl e) = inl (ap f e)
in_map f (y ∷ ys) x (inr i) = inr (in_map f ys x i)

pub map_in : {X Y : Type 0} (f : X → Y) (xs : List X) (y : Y) → IsIn y (map f xs) → (x : X) × IsIn x xs × (f x ≡ y)
map_in f [] y i = absurd i
map_in f (x ∷ xs) y (inl e) = (x, inl refl, e)
map_in f (x ∷ xs) y (inr i) = let r = map_in f xs y i in (r.0, inr r.1, r.2)

module _ {X : Type 0} (e : X → X → Bool) where
  -- of distinct elements, two that the test tells equal are one
  pub one_of : ((x y : X) → e x y ≡ e y x) → (xs : List X) (x y : X) → IsDistinct e xs → IsIn x xs → IsIn y xs → e x y ≡ true → x ≡ y
  unfolding IsDistinct
  one_of flips [] x y d i j h = absurd i
  one_of flips (z ∷ zs) x y d (inl a) (inl b) h = sym a ∙ b
  one_of flips (z ∷ zs) x y d (inl a) (inr j) h = true_not_false (e x y) h (subst (λ w. e w y ≡ false) a (each_in (λ w. e z w ≡ false) zs y d.0 j))
  one_of flips (z ∷ zs) x y d (inr i) (inl b) h = true_not_false (e x y) h (flips x y ∙ subst (λ w. e w x ≡ false) b (each_in (λ w. e z w ≡ false) zs x d.0 i))
  one_of flips (z ∷ zs) x y d (inr i) (inr j) h = one_of flips zs x y d.1 i j h

  pub none_pass : (p : X → Bool) (xs : List X) → ((x : X) → IsIn x xs → p x ≡ false) → filter p xs ≡ []
  none_pass p [] h = refl
  none_pass p (x ∷ xs) h = rw (h x (inl refl)) (none_pass p xs (λ y i. h y (inr i)))

  -- where the test tells equal whatever passes, one passes
  pub one_passes : (p : X → Bool) (xs : List X) (x : X) → IsDistinct e xs → ((y z : X) → IsIn y xs → IsIn z xs → p y ≡ true → p z ≡ true → e y z ≡ true) → IsIn x xs → p x ≡ true → filter p xs ≡ x ∷ []
  unfolding IsDistinct
  one_passes p [] x d same i h = absurd i
  one_passes p (z ∷ zs) x d same i h = split (p z) refl (λ j. one_passes p zs x d.1 (λ y w k l. same y w (inr k) (inr l)) j h)
    where
      others : p z ≡ true → (y : X) → IsIn y zs → p y ≡ false
      others passes y j = by (p y) refl
        where
          by : (b : Bool) → p y ≡ b → p y ≡ false
          by true t = true_not_false (e z y) (same z y (inl refl) (inr j) passes t) (each_in (λ w. e z w ≡ false) zs y d.0 j)
          by false t = t

      split : (b : Bool) → p z ≡ b → (IsIn x zs → filter p zs ≡ x ∷ []) → cond b (z ∷ filter p zs) (filter p zs) ≡ x ∷ []
      split true passes rest = first i
        where
          first : IsIn x (z ∷ zs) → z ∷ filter p zs ≡ x ∷ []
          first (inl a) = ap (λ w. w ∷ filter p zs) a ∙ ap (λ ws. x ∷ ws) (none_pass p zs (others passes))
          first (inr j) = true_not_false (p x) h (others passes x j)
      split false fails rest = first i
        where
          first : IsIn x (z ∷ zs) → filter p zs ≡ x ∷ []
          first (inl a) = true_not_false (p z) (ap p a ∙ h) fails
          first (inr j) = rest j

each_from_map : {X Y : Type 0} (P : Y → Type 0) (f : X → Y) (xs : List X) → AllByRecursion P (map f xs) → AllByRecursion (λ x. P (f x)) xs
each_from_map P f [] h = tt
each_from_map P f (x ∷ xs) h = (h.0, each_from_map P f xs h.1)

-- what is distinct by a part of each
pub distinct_from_map : {X Y : Type 0} (e : Y → Y → Bool) (f : X → Y) (xs : List X) → IsDistinct e (map f xs) → IsDistinct (on f e) xs
unfolding IsDistinct
distinct_from_map e f [] d = tt
distinct_from_map e f (x ∷ xs) d = (each_from_map (λ y. e (f x) y ≡ false) f xs d.0, distinct_from_map e f xs d.1)

pub map_same : {X Y : Type 0} (f g : X → Y) (xs : List X) → ((x : X) → IsIn x xs → f x ≡ g x) → map f xs ≡ map g xs
map_same f g [] h = refl
map_same f g (x ∷ xs) h = λ i. h x (inl refl) i ∷ map_same f g xs (λ y j. h y (inr j)) i

pub filtered_passes : {X : Type 0} (p : X → Bool) (xs : List X) (x : X) → IsIn x (filter p xs) → p x ≡ true
filtered_passes p [] x i = absurd i
filtered_passes p (y ∷ ys) x i = split (p y) refl i (filtered_passes p ys x)
  where
    split : (b : Bool) → p y ≡ b → IsIn x (cond b (y ∷ filter p ys) (filter p ys)) → (IsIn x (filter p ys) → p x ≡ true) → p x ≡ true
    split true e (inl same) rest = ap p (sym same) ∙ e
    split true e (inr j) rest = rest j
    split false e j rest = rest j
