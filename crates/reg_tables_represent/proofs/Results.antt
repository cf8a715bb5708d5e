-- What is said of an answer, in other words.
use Rattle.std.proofs.Common.{◌≡◌, Ok, Err, Result, IfOk, OnOk, OnErr, Option, Some, None, refl}
use Rattle.std.specs.Option.{ok_or}

pub if_ok : {T E : Type 0} (r : Result T E) {A B : T → Type 0} → ((x : T) → A x → B x) → IfOk r A → IfOk r B
if_ok (Ok x) f a = f x a
if_ok (Err e) f a = tt

pub on_ok : {T E A B : Type 0} (r : Result T E) → (A → B) → OnOk r A → OnOk r B
on_ok (Ok x) f a = f a
on_ok (Err e) f a = tt

pub on_err : {T E A B : Type 0} (r : Result T E) → (A → B) → OnErr r A → OnErr r B
on_err (Ok x) f a = tt
on_err (Err e) f a = f a

-- what is there is answered
pub if_there : {X E : Type 0} {P : X → Type 0} (o : Option X) (e : E) (r : Result X E) → r ≡ ok_or o e → ((x : X) → o ≡ Some x → P x) → IfOk r P
if_there (Some x) e r is h = rw is (h x refl)
if_there None e r is h = rw is tt
