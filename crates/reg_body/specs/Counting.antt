-- What contracts see of a reader or a writer whose calls are counted.
use Rattle.std.specs.Prelude.{◌≡◌, ℕ, ◌+◌, Result, Ok, Err}

-- an end, how often it was called, and how often it failed
pub record CountedEnd (T : Type 0) : Type 0 where
  pub inner : T
  pub calls : ℕ
  pub failures : ℕ

-- one failure more exactly where the call failed
abbrev pub CountsFailure : {A E : Type 0} → Result A E → ℕ → ℕ → Type 0
CountsFailure (Ok a) old new = new ≡ old
CountsFailure (Err e) old new = new ≡ old + 1
