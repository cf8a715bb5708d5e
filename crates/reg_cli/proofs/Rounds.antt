-- Rounds, one after another.
use Rattle.std.proofs.Common.{Err, OnOk, Ok, Result}

-- what holds however it ends
pub on_ok : {T E : Type 0} {A : Type 0} (r : Result T E) → A → OnOk r A
on_ok (Ok x) a = a
on_ok (Err e) a = tt

pub on_both : {T E : Type 0} {A B C : Type 0} (r : Result T E) → (A → B → C) → OnOk r A → OnOk r B → OnOk r C
on_both (Ok x) f a b = f a b
on_both (Err e) f a b = tt
