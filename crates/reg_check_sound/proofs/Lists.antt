-- Tests of the elements of a list.
use Rattle.reg_check_sound.proofs.Words.{◌||◌, cond, find, list_any}
use Rattle.reg_check_sound.proofs.Common.{◌≡◌, [], ◌∷◌, Bool, false, inl, inr, IsIn, List, refl, Some, true}

-- tests that agree on the elements
pub any_on : {X : Type 0} (p q : X → Bool) (xs : List X) → ((x : X) → IsIn x xs → p x ≡ q x) → list_any p xs ≡ list_any q xs
any_on p q [] h = refl
any_on p q (x ∷ xs) h = λ i. h x (inl refl) i || any_on p q xs (λ y j. h y (inr j)) i

pub find_some : {X : Type 0} (p : X → Bool) (xs : List X) → list_any p xs ≡ true → (x : X) × (find p xs ≡ Some x) × IsIn x xs × (p x ≡ true)
find_some p [] h = absurd cc
find_some {X} p (y ∷ ys) h = split (p y) refl h (find_some p ys)
  where
    split : (b : Bool) → p y ≡ b → (b || list_any p ys) ≡ true → (list_any p ys ≡ true → (x : X) × (find p ys ≡ Some x) × IsIn x ys × (p x ≡ true)) → (x : X) × (cond b (Some y) (find p ys) ≡ Some x) × IsIn x (y ∷ ys) × (p x ≡ true)
    split true e k later = (y, refl, inl refl, e)
    split false e k later = let r = later k in (r.0, r.1, inr r.2, r.3)
