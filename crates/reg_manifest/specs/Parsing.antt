-- Reading JSON in steps, of which the first that fails gives the fault.
use Rattle.std.specs.Prelude.{◌≡◌, Result, Ok, Err}
use Rattle.reg_manifest.specs.declared.fault.ManifestFault.{ManifestFault}
use Rattle.reg_manifest.specs.declared.fault.ManifestFault.TheVariants as fault

-- a value, or the first fault
abbrev pub Parsed : Type 0 → Type 0
Parsed A = Result A ManifestFault

-- the first step, and then the second on what it gave
infixl 10 ◌>>=◌
abbrev pub ◌>>=◌ : {A B : Type 0} → Parsed A → (A → Parsed B) → Parsed B
(Ok x) >>= f = f x
(Err e) >>= f = Err e

-- an answer fails as reading does, or for want of memory
abbrev pub FailsAs : {Y : Type 0} → ManifestFault → Parsed Y → Type 0
FailsAs fault.NotJson read = read ≡ Err fault.NotJson
FailsAs fault.Field read = read ≡ Err fault.Field
FailsAs fault.Name read = read ≡ Err fault.Name
FailsAs fault.Version read = read ≡ Err fault.Version
FailsAs fault.Dependency read = read ≡ Err fault.Dependency
FailsAs fault.Memory read = Unit {0}

-- what a function returned, seen by view, is what reading gives, memory aside
abbrev pub Gives : {X Y : Type 0} → (X → Y) → Result X ManifestFault → Parsed Y → Type 0
Gives view (Ok x) read = read ≡ Ok (view x)
Gives view (Err e) read = FailsAs e read
