-- Lists that are filtered, mapped and cut.
use Rattle.reg_search.proofs.Words.{◌≡◌, ℕ, zero, suc, Bool, true, false, ◌&&◌, ◌||◌, cond, List, [], ◌∷◌, take, refl, sym, ap, ◌∙◌}
use Rattle.reg_search.proofs.Words.{AllByRecursion, filter, flat_map, list_any, any_same, and_true}
use Rattle.std.proofs.lemmas.List.Folds.{list_any-append}
use Rattle.reg_search.proofs.Among.{and_false, none_any}

pub any_gated : {X : Type 0} (b : Bool) (q : X → Bool) (xs : List X) → list_any (λ x. b && q x) xs ≡ (b && list_any q xs)
any_gated true q xs = refl
any_gated false q xs = none_any xs

pub each_passes : {X : Type 0} (P : X → Type 0) (p : X → Bool) (xs : List X) → AllByRecursion P xs → AllByRecursion P (filter p xs)
each_passes P p [] h = tt
each_passes P p (x ∷ xs) h = one (p x) (each_passes P p xs h.1)
  where
    one : (b : Bool) → AllByRecursion P (filter p xs) → AllByRecursion P (cond b (x ∷ filter p xs) (filter p xs))
    one true rest = (h.0, rest)
    one false rest = rest

pub each_taken : {X : Type 0} (P : X → Type 0) (n : ℕ) (xs : List X) → AllByRecursion P xs → AllByRecursion P (take n xs)
each_taken P zero xs h = tt
each_taken P (suc n) [] h = tt
each_taken P (suc n) (x ∷ xs) h = (h.0, each_taken P n xs h.1)

pub any_kept : {X : Type 0} (q : X → Bool) (b : Bool) (xs : List X) → list_any (λ x. q x && b) xs ≡ (list_any q xs && b)
any_kept q true xs = any_same _ q (λ x. and_true (q x)) xs ∙ sym (and_true (list_any q xs))
any_kept q false xs = any_same _ (λ x. false) (λ x. and_false (q x)) xs ∙ none_any xs ∙ sym (and_false (list_any q xs))

pub any_each : {A B : Type 0} (q : B → Bool) (f : A → List B) (xs : List A) → list_any q (flat_map f xs) ≡ list_any (λ x. list_any q (f x)) xs
any_each q f [] = refl
any_each q f (x ∷ xs) = list_any-append q (f x) (flat_map f xs) ∙ ap (λ b. list_any q (f x) || b) (any_each q f xs)
