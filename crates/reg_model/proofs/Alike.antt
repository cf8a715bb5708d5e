-- Elements of a list that two equalities tell apart.
use Rattle.reg_model.proofs.Words.{◌≡◌, inl, inr, List, [], ◌∷◌, Bool, true, false, sym, ap, ◌∙◌, AllByRecursion, IsEquivalence}
use Rattle.std.specs.List.{IsDistinct}
use Rattle.std.proofs.lemmas.Map.Keys.{IsDistinct-head, IsDistinct-tail}
use Rattle.reg_model.proofs.Members.{IsIn, each_in}

pub both_all : {X : Type 0} (P Q R : X → Type 0) → ((x : X) → P x → Q x → R x) → (xs : List X) → AllByRecursion P xs → AllByRecursion Q xs → AllByRecursion R xs
both_all P Q R make [] p q = tt
both_all P Q R make (x ∷ xs) p q = (make x p.0 q.0, both_all P Q R make xs p.1 q.1)

module _ {X : Type 0} (e f : X → X → Bool) (same_e : IsEquivalence e) (same_f : IsEquivalence f) (x : X) where
  other : (g : X → X → Bool) → IsEquivalence g → (y z : X) → y ≡ x → g y z ≡ false → g z x ≡ false
  other g same y z is apart = same.symm z x ∙ ap (λ w. g w z) (sym is) ∙ apart

  itself : (g : X → X → Bool) → IsEquivalence g → (y : X) → y ≡ x → g y x ≡ true
  itself g same y is = ap (λ w. g w x) is ∙ same.refl x

  -- they agree on which is this one
  pub alike : (xs : List X) → IsIn x xs → IsDistinct e xs → IsDistinct f xs → AllByRecursion (λ y. e y x ≡ f y x) xs
  alike [] at d d' = tt
  alike (y ∷ ys) (inl is) d d' =
      (itself e same_e y is ∙ sym (itself f same_f y is), both_all _ _ (λ z. e z x ≡ f z x) (λ z p q. other e same_e y z is p ∙ sym (other f same_f y z is q)) ys (IsDistinct-head e y ys d) (IsDistinct-head f y ys d'))
  alike (y ∷ ys) (inr at) d d' =
      (each_in (λ z. e y z ≡ false) ys x (IsDistinct-head e y ys d) at ∙ sym (each_in (λ z. f y z ≡ false) ys x (IsDistinct-head f y ys d') at), alike ys at (IsDistinct-tail e y ys d) (IsDistinct-tail f y ys d'))
