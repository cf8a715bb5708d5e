-- A text has `?/` just where the test of its bytes says so.
use Rattle.std.proofs.Common.{◌≡◌, ◌↔◌, ℕ, Bool, true, List, [], ◌∷◌, ◌++◌, refl, ap, ap₂, ◌∙◌, inl, inr}
use Rattle.std.proofs.lemmas.Bool.{and_parts, or_cases, or_right, false≢true, eqb-true}
use Rattle.std.specs.Cmp.{both_ways}
use Rattle.std.specs.Str.Iter.{HasSubslice}
use Rattle.reg_line.specs.Features.{has_weak}

to_slice : (s : List ℕ) → has_weak s ≡ true → HasSubslice s (63 ∷ 47 ∷ [])
unfolding has_weak
to_slice [] h = absurd (false≢true h)
to_slice (x ∷ []) h = absurd (false≢true h)
to_slice (x ∷ y ∷ rest) h = elim (or_cases _ _ h) [
  | inl e ↦ let p = and_parts _ _ e in ([], rest, ap₂ (λ (a b : ℕ). a ∷ b ∷ rest) (eqb-true x 63 p.0) (eqb-true y 47 p.1))
  | inr e ↦ let w = to_slice (y ∷ rest) e in (x ∷ w.0, w.1, ap (λ (l : List ℕ). x ∷ l) w.2)
]

weak_here : (a b : List ℕ) → has_weak (a ++ (63 ∷ 47 ∷ b)) ≡ true
unfolding has_weak
weak_here [] b = refl
weak_here (x ∷ []) b = or_right _ _ (weak_here [] b)
weak_here (x ∷ y ∷ a) b = or_right _ _ (weak_here (y ∷ a) b)

pub weak_from : (r : Bool) (s : List ℕ) → (r ≡ true) ↔ HasSubslice s (63 ∷ 47 ∷ []) → r ≡ has_weak s
weak_from r s h = both_ways r (has_weak s) (λ e. let w = h.0 e in ap has_weak w.2 ∙ weak_here w.0 w.1) (λ e. h.1 (to_slice s e))
