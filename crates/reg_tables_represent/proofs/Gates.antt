-- Lists of which each element gives one row or none.
use Rattle.std.proofs.Common.{◌≡◌, ℕ, suc, arith, Bool, true, false, ◌||◌, cond, if◌then◌else◌, List, [], ◌∷◌, ◌++◌, map, length, inl, inr, refl, ap, ◌∙◌}
use Rattle.std.specs.Prelude.{min}
use Rattle.reg_tables_represent.proofs.Common.{filter, flat_map, IsIn, list_any}

abbrev pub bit : Bool → ℕ
bit b = if b then 1 else 0

-- rows are counted up to the first
pub counted_any : {X Y : Type 0} (p : X → Bool) (f : X → Y) (xs : List X)
    → min 1 (length (flat_map (λ x. cond (p x) (f x ∷ []) []) xs)) ≡ bit (list_any p xs)
counted_any p f [] = refl
counted_any p f (x ∷ xs) = one (p x) (counted_any p f xs)
  where
    one : (b : Bool) → min 1 (length (flat_map (λ x. cond (p x) (f x ∷ []) []) xs)) ≡ bit (list_any p xs)
        → min 1 (length (cond b (f x ∷ []) [] ++ flat_map (λ x. cond (p x) (f x ∷ []) []) xs)) ≡ bit (b || list_any p xs)
    one true h = at_least (length (flat_map (λ x. cond (p x) (f x ∷ []) []) xs))
      where
        at_least : (n : ℕ) → min 1 (suc n) ≡ 1
        at_least n = omega arith
    one false h = h

pub each_gate : {A B : Type 0} (f : A → List B) (p : A → Bool) (g : A → B) (xs : List A)
    → ((x : A) → IsIn x xs → f x ≡ cond (p x) (g x ∷ []) []) → flat_map f xs ≡ map g (filter p xs)
each_gate f p g [] h = refl
each_gate f p g (x ∷ xs) h = ap (λ ys. ys ++ flat_map f xs) (h x (inl refl)) ∙ one (p x) (each_gate f p g xs (λ y i. h y (inr i)))
  where
    one : (b : Bool) → flat_map f xs ≡ map g (filter p xs)
        → cond b (g x ∷ []) [] ++ flat_map f xs ≡ map g (cond b (x ∷ filter p xs) (filter p xs))
    one true e = ap (λ ys. g x ∷ ys) e
    one false e = e
