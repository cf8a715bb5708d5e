-- Texts that are joined by a text of one byte.
use Rattle.std.proofs.Common.{◌≡◌, ℕ, List, [], ◌∷◌, ◌++◌, map, refl, ap}
use Rattle.std.proofs.lemmas.List.{append-nil}
use Rattle.std.specs.List.{join_by, join_with_byte}

pub joined : {X : Type 0} (c : ℕ) (f : X → List ℕ) (xs : List X) → join_by f (c ∷ []) xs ≡ join_with_byte c (map f xs)
joined c f [] = refl
joined c f (x ∷ []) = append-nil (f x)
joined c f (x ∷ y ∷ xs) = ap (λ t. f x ++ c ∷ t) (joined c f (y ∷ xs))
