-- Lists that are joined on a test which an element of one passes with at most one of the other.
use Rattle.std.proofs.Common.{◌≡◌, List, [], ◌∷◌, ◌++◌, Bool, true, false, ◌||◌, cond, refl, sym, ◌∙◌, true≢false}
use Rattle.std.specs.List.{filter, flat_map, list_any, AllByRecursion, IsDistinct}
use Rattle.std.specs.List.Sorted.{IsPermutation}
use Rattle.std.proofs.lemmas.Bool.{or_from}
use Rattle.std.proofs.lemmas.List.Sorted.{IsPermutation-refl, IsPermutation-cons, IsPermutation-trans, IsPermutation-middle, IsPermutation-append_right}
use Rattle.std.proofs.lemmas.Map.Keys.{IsDistinct-head, IsDistinct-tail}
use Rattle.sqlite_trees.proofs.ListLemmas.{IsPermutation-same}

none_passes : {A : Type 0} (xs : List A) → ◌≡◌ {A = List A} [] (filter (λ x. false) xs)
none_passes [] = refl
none_passes (x ∷ xs) = none_passes xs

-- what passes one of two tests that nothing passes both of
filter_either : {A : Type 0} (p q : A → Bool) → ((x : A) → p x ≡ true → q x ≡ false) → (xs : List A) → IsPermutation (filter p xs ++ filter q xs) (filter (λ x. p x || q x) xs)
filter_either p q apart [] = IsPermutation-refl []
filter_either p q apart (x ∷ xs) = split (p x) (q x) (apart x) refl refl (filter_either p q apart xs)
  where
    split : (a b : Bool) → (p x ≡ true → q x ≡ false) → p x ≡ a → q x ≡ b → IsPermutation (filter p xs ++ filter q xs) (filter (λ x. p x || q x) xs)
        → IsPermutation (cond a (x ∷ filter p xs) (filter p xs) ++ cond b (x ∷ filter q xs) (filter q xs)) (cond (a || b) (x ∷ filter (λ x. p x || q x) xs) (filter (λ x. p x || q x) xs))
    split true true alone e f h = absurd (true≢false (sym f ∙ alone e))
    split true false alone e f h = IsPermutation-cons x _ _ h
    split false true alone e f h = IsPermutation-trans _ (x ∷ (filter p xs ++ filter q xs)) _ (IsPermutation-middle (filter p xs) x (filter q xs)) (IsPermutation-cons x _ _ h)
    split false false alone e f h = h

module _ {K A : Type 0} (p : K → A → Bool) (e : K → K → Bool) (apart : (k l : K) (x : A) → e k l ≡ false → p k x ≡ true → p l x ≡ false) (xs : List A) where
  no_other : (ks : List K) (k : K) (x : A) → AllByRecursion (λ l. e k l ≡ false) ks → p k x ≡ true → list_any (λ l. p l x) ks ≡ false
  no_other [] k x all h = refl
  no_other (l ∷ ks) k x all h = or_from _ _ (apart k l x all.0 h) (no_other ks k x all.1 h)

  pub joined_once : (ks : List K) → IsDistinct e ks → IsPermutation (flat_map (λ k. filter (p k) xs) ks) (filter (λ x. list_any (λ k. p k x) ks) xs)
  joined_once [] d = IsPermutation-same [] (filter (λ x. false) xs) (none_passes xs)
  joined_once (k ∷ ks) d =
      let rest = filter (λ x. list_any (λ l. p l x) ks) xs in
      IsPermutation-trans _ (filter (p k) xs ++ rest) _ (IsPermutation-append_right (filter (p k) xs) (flat_map (λ l. filter (p l) xs) ks) rest (joined_once ks (IsDistinct-tail e k ks d)))
      (filter_either (p k) (λ x. list_any (λ l. p l x) ks) (λ x h. no_other ks k x (IsDistinct-head e k ks d) h) xs)
