-- No row is joined on a NULL.
use Rattle.reg_access.proofs.Words.{◌≡◌, List, [], ◌∷◌, true, false, refl, list_any, Value, Null, Int, Text, Blob, Binary, is_null, equal}
use Rattle.std.proofs.Common.{ℤ}
use Rattle.sqlite.specs.declared.types.Value.TheVariants.{Real}
use Rattle.sqlite.specs.Ops.{binary}

pub equals_null : (v : Value) → equal Binary v Null ≡ false
unfolding binary
equals_null Null = refl
equals_null (Int n) = refl
equals_null (Real x) = refl
equals_null (Text t) = refl
equals_null (Blob b) = refl

pub not_null : (v : Value) (n : ℤ) → equal Binary v (Int n) ≡ true → is_null v ≡ false
unfolding binary
not_null Null n h = absurd cc
not_null (Int m) n h = refl
not_null (Real x) n h = refl
not_null (Text t) n h = refl
not_null (Blob b) n h = refl

pub none_any : {X : Type 0} (xs : List X) → list_any (λ x. false) xs ≡ false
none_any [] = refl
none_any (x ∷ xs) = none_any xs
