-- A needle is found where it occurs.
use Rattle.std.proofs.Common.{◌≡◌, ℕ, zero, suc, ◌+◌, ◌<◌, true, List, [], ◌∷◌, Option, Some, None, length, take, sym, ap, arith, length-take}
use Rattle.std.specs.Prelude.{is_some, nat_eq}
use Rattle.std.specs.List.{starts_with}
use Rattle.std.proofs.lemmas.Slice.Eq.{bytes_eq-Decides}
use Rattle.memchr.specs.Find.{FindsNeedle, OccursAt}
use Rattle.memchr.proofs.lemmas.MatchLemmas.{OccursAt-part, OccursAt-from_part}
use Rattle.reg_model.specs.Search.{occurs}
use Rattle.reg_model.proofs.Lists.{not_true, or_left, or_right, or_split}

module _ (needle : List ℕ) where
  begins : (hay : List ℕ) → OccursAt hay needle 0 → starts_with nat_eq hay needle ≡ true
  begins hay at = (bytes_eq-Decides needle (take (length needle) hay)).1 (sym (OccursAt-part hay needle 0 at))

  begun : (hay : List ℕ) → starts_with nat_eq hay needle ≡ true → OccursAt hay needle 0
  begun hay h =
      let same = (bytes_eq-Decides needle (take (length needle) hay)).0 h in
      OccursAt-from_part hay needle 0 (omega (arith, ap length same, length-take (length needle) hay)) (sym same)

  earlier : (b : ℕ) (hay : List ℕ) (k : ℕ) → OccursAt (b ∷ hay) needle (suc k) → OccursAt hay needle k
  earlier b hay k at = OccursAt-from_part hay needle k (omega (arith, at.fits)) (OccursAt-part (b ∷ hay) needle (suc k) at)

  later : (b : ℕ) (hay : List ℕ) (k : ℕ) → OccursAt hay needle k → OccursAt (b ∷ hay) needle (suc k)
  later b hay k at = OccursAt-from_part (b ∷ hay) needle (suc k) (omega (arith, at.fits)) (OccursAt-part hay needle k at)

  there : (hay : List ℕ) (k : ℕ) → OccursAt hay needle k → occurs needle hay ≡ true
  there [] zero at = begins [] at
  there [] (suc k) at = absurd (omega (arith, at.fits))
  there (b ∷ rest) zero at = or_left _ _ (begins (b ∷ rest) at)
  there (b ∷ rest) (suc k) at = or_right (starts_with nat_eq (b ∷ rest) needle) _ (there rest k (earlier b rest k at))

  somewhere : (hay : List ℕ) → occurs needle hay ≡ true → (k : ℕ) × (k < length hay + 1) × OccursAt hay needle k
  somewhere [] h = (0, omega arith, begun [] h)
  somewhere (b ∷ rest) h =
      or_split (starts_with nat_eq (b ∷ rest) needle) (occurs needle rest) h
      (λ e. (0, omega arith, begun (b ∷ rest) e))
      (λ e. let r = somewhere rest e in (suc r.0, omega (arith, r.1), later b rest r.0 r.2))

  pub found_is : (hay : List ℕ) (r : Option ℕ) → FindsNeedle hay needle 0 r → is_some r ≡ occurs needle hay
  found_is hay None none = sym (not_true (occurs needle hay) (λ h. let w = somewhere hay h in none w.0 (omega arith) w.1 w.2))
  found_is hay (Some k) at = sym (there hay k at.1)
