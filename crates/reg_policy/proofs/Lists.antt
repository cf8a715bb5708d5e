-- Tests over a mapped list.
use Rattle.std.proofs.Common.{◌≡◌, List, [], ◌∷◌, Bool, refl, ap}
use Rattle.std.specs.Prelude.{map, ◌&&◌}
use Rattle.std.specs.List.{list_all}

pub list_all_map : {X Y : Type 0} (p : Y → Bool) (f : X → Y) (xs : List X) → list_all p (map f xs) ≡ list_all (λ x. p (f x)) xs
list_all_map p f [] = refl
list_all_map p f (x ∷ xs) = ap (λ b. p (f x) && b) (list_all_map p f xs)

pub list_all_same : {X : Type 0} (p q : X → Bool) → ((x : X) → p x ≡ q x) → (xs : List X) → list_all p xs ≡ list_all q xs
list_all_same p q same [] = refl
list_all_same p q same (x ∷ xs) = λ i. same x i && list_all_same p q same xs i
