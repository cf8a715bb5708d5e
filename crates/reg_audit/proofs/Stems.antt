-- The check of a stem, with words and a digest that were read from a row.
use Rattle.reg_audit.proofs.Words.{◌≡◌, ℕ, List, length, Result, Ok, Err, IfOk, Bool, sym, subst, ◌↔◌, IsTrue, IsStemOf}

module _ (s n v d t m w e : List ℕ) where
  same_stem : s ≡ t → n ≡ m → v ≡ w → d ≡ e → IsStemOf s n v d → IsStemOf t m w e
  same_stem a b c f h = subst (λ x. IsStemOf x m w e) a (subst (λ x. IsStemOf s x w e) b (subst (λ x. IsStemOf s n x e) c (subst (IsStemOf s n v) f h)))

pub with_length : {E : Type 0} (r : Result Bool E) (s n v d t m w e : List ℕ) → t ≡ s → m ≡ n → w ≡ v → e ≡ d → length d ≡ 32
    → IfOk r (λ b. IsTrue b ↔ IsStemOf t m w e) → IfOk r (λ b. IsTrue b ↔ ((length d ≡ 32) × IsStemOf s n v d))
with_length (Err f) s n v d t m w e a b c same long h = tt
with_length (Ok x) s n v d t m w e a b c same long h = (λ yes. (long, same_stem t m w e s n v d a b c same (h.0 yes)), λ both. h.1 (same_stem s n v d t m w e (sym a) (sym b) (sym c) (sym same) both.1))
