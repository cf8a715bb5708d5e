-- What sending a text to a writer did, in a bounded number of write calls.
use Rattle.std.specs.Prelude.{◌≡◌, ◌+◌, ◌≤◌, ◌<◌, ◌++◌, ℕ, List, length, Option, Result, Ok, Err}
use Rattle.std.specs.Io.KnownBytes.{Appends}
use Rattle.reg_body.specs.Counting.{CountedEnd}
use Rattle.reg_body.specs.declared.bytes.SendFault.{SendFault}
use Rattle.reg_body.specs.declared.bytes.SendFault.TheVariants.{Spent, Write}

-- a writer: what was written to it, if that is known, how often it was called, how often it failed
pub record Sink : Type 0 where
  pub contents : Option (List ℕ)
  pub calls : ℕ
  pub failures : ℕ

-- what a counted writer is, of these contents
abbrev pub sink : {T : Type 0} → Option (List ℕ) → CountedEnd T → Sink
sink contents end = record { contents = contents; calls = end.calls; failures = end.failures }

-- a front of the text was appended
pub record AppendsFront (text : List ℕ) (old new : Option (List ℕ)) : Type 0 where
  pub front : List ℕ
  pub rest : List ℕ
  pub whole : text ≡ front ++ rest
  pub appends : Appends old new front

-- all of the text was appended, in this number of calls: none where there was nothing to append
pub record SendsAll (text : List ℕ) (writes used : ℕ) (old new : Sink) : Type 0 where
  pub all : Appends old.contents new.contents text
  pub within : used ≤ writes
  pub some : 0 < length text → 0 < used
  pub sent : 0 < used → 0 < length text
  pub calls : new.calls ≡ old.calls + used
  pub failures : new.failures ≡ old.failures

-- a front of the text was appended before a call failed
pub record SendsUntilFailure (text : List ℕ) (writes : ℕ) (old new : Sink) : Type 0 where
  pub front : AppendsFront text old.contents new.contents
  pub begun : old.calls < new.calls
  pub within : new.calls ≤ old.calls + writes
  pub failures : new.failures ≡ old.failures + 1

-- a front of the text was appended when the calls were used up
pub record SendsUntilSpent (text : List ℕ) (writes : ℕ) (old new : Sink) : Type 0 where
  pub front : AppendsFront text old.contents new.contents
  pub calls : new.calls ≡ old.calls + writes
  pub failures : new.failures ≡ old.failures

-- sending the text was stopped
abbrev pub IsStopped : SendFault → List ℕ → ℕ → Sink → Sink → Type 0
IsStopped Write text writes old new = SendsUntilFailure text writes old new
IsStopped Spent text writes old new = SendsUntilSpent text writes old new

-- what sending the text did, in at most this number of calls; the result tells how many it took
abbrev pub Sends : Result ℕ SendFault → List ℕ → ℕ → Sink → Sink → Type 0
Sends (Ok used) text writes old new = SendsAll text writes used old new
Sends (Err fault) text writes old new = IsStopped fault text writes old new

-- the result of sending two texts, of which the first took this number of calls
abbrev pub after : ℕ → Result ℕ SendFault → Result ℕ SendFault
after used (Ok more) = Ok (used + more)
after used (Err fault) = Err fault
