-- What an option holds.
use Rattle.std.proofs.Common.{◌≡◌, true, Option, None, Some, is_some, refl}

pub same_some : {X : Type 0} {a b : X} → ◌≡◌ {A = Option X} (Some a) (Some b) → a ≡ b
same_some e = cc

pub the_some : {X : Type 0} (o : Option X) → is_some o ≡ true → (x : X) × (o ≡ Some x)
the_some None h = absurd cc
the_some (Some x) h = (x, refl)
