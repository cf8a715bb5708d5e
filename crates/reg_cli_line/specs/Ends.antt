-- What was written before a crash, and which stops are failures of an end.
use Rattle.std.specs.Prelude.{◌≡◌, ℕ, ◌+◌, ◌<◌, List, ◌++◌, length, Option, Result, Ok, Err}
use Rattle.std.specs.Io.KnownBytes.{Appends}
use Rattle.reg_body.specs.Counting.{CountedEnd}
use Rattle.reg_cli_line.specs.declared.ends.EndFault.{EndFault}
use Rattle.reg_cli_line.specs.declared.ends.EndFault.TheVariants.{Failed, Spent, Memory}

-- known bytes grow by a front of bs, and some of bs is left
pub record AppendsFront (old new : Option (List ℕ)) (bs : List ℕ) : Type 0 where
  pub front : List ℕ
  pub rest : List ℕ
  pub whole : bs ≡ front ++ rest
  pub left : 0 < length rest
  pub appends : Appends old new front

-- no call of the end failed
abbrev pub NoneFailed : {T : Type 0} → CountedEnd T → CountedEnd T → Type 0
NoneFailed old new = new.failures ≡ old.failures

-- one call of the end failed
abbrev pub OneFailed : {T : Type 0} → CountedEnd T → CountedEnd T → Type 0
OneFailed old new = new.failures ≡ old.failures + 1

-- a call of the end failed exactly where the answer is that it did
abbrev pub TellsFailure : {A T : Type 0} → Result A EndFault → CountedEnd T → CountedEnd T → Type 0
TellsFailure (Ok a) old new = NoneFailed old new
TellsFailure (Err Failed) old new = OneFailed old new
TellsFailure (Err Spent) old new = NoneFailed old new
TellsFailure (Err Memory) old new = NoneFailed old new
