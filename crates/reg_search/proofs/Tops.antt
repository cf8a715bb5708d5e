-- A list that has a release has a top.
use Rattle.std.proofs.Common.{◌≡◌, ℕ, zero, suc, ◌+◌, ◌<◌, ◌≤◌, ◌⊎◌, inl, inr, Bool, true, false, List, ◌∷◌, length, Option, Some, None, Ordering, Less, Equal, Greater, refl, subst, arith, slice_get}
use Rattle.reg_versions.specs.Best.{IsBestOf}
use Rattle.reg_versions.specs.Precedence.{Marked, precedence, takes_part, top_place}
use Rattle.reg_versions.proofs.Best.{at_place, keep, none_of_all, replace, skip, start, top_of_all}
use Rattle.reg_versions.proofs.TopPlace.{top_is_top}

is_above : (o : Ordering) → (o ≡ Greater) ⊎ (o ≡ Greater → ⊥)
is_above Less = inr (λ e. cc e)
is_above Equal = inr (λ e. cc e)
is_above Greater = inl refl

-- one more release
better : (l : List Marked) (n : ℕ) → n < length l → (o : Option ℕ) → IsBestOf l n o → (p : Option ℕ) × IsBestOf l (n + 1) p
better l n lt o is = let r = at_place l n lt in by r.0 r.1 (takes_part l r.0) refl o is
  where
    against : (r : Marked) → slice_get l n ≡ Some r → takes_part l r ≡ true → (o : Option ℕ) → IsBestOf l n o → (p : Option ℕ) × IsBestOf l (n + 1) p
    against r at part None is = (Some n, start l n r at part is)
    against r at part (Some b) is = elim (is_above (precedence r.0 is.best.0)) [
      | inl above ↦ (Some n, replace l n b r is at part above)
      | inr below ↦ (Some b, keep l n b r is at below)
    ]

    by : (r : Marked) → slice_get l n ≡ Some r → (t : Bool) → takes_part l r ≡ t → (o : Option ℕ) → IsBestOf l n o → (p : Option ℕ) × IsBestOf l (n + 1) p
    by r at true part o is = against r at part o is
    by r at false out o is = (o, skip l n r o at out is)

best : (l : List Marked) (n : ℕ) → n ≤ length l → (o : Option ℕ) × IsBestOf l n o
best l zero h = (None, λ j lt. absurd (omega (arith, lt)))
best l (suc n) h = let b = best l n (omega (arith, h)) in up (better l n (omega (arith, h)) b.0 b.1)
  where
    up : ((p : Option ℕ) × IsBestOf l (n + 1) p) → (p : Option ℕ) × IsBestOf l (suc n) p
    up b = (b.0, subst (λ m. IsBestOf l m b.0) (one n) b.1)
      where
        one : (n : ℕ) → n + 1 ≡ suc n
        one n = omega arith

pub there_is_top : (x : Marked) (l : List Marked) → (i : ℕ) × (top_place (x ∷ l) ≡ Some i)
there_is_top x l = let b = best (x ∷ l) (length (x ∷ l)) (omega arith) in told b.0 b.1
  where
    told : (o : Option ℕ) → IsBestOf (x ∷ l) (length (x ∷ l)) o → (i : ℕ) × (top_place (x ∷ l) ≡ Some i)
    told None none = absurd (let e = none_of_all (x ∷ l) (length (x ∷ l)) (omega arith) none in cc e)
    told (Some i) is = (i, (top_is_top (x ∷ l) i).1 (top_of_all (x ∷ l) (length (x ∷ l)) (Some i) (omega arith) is))
