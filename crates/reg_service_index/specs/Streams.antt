-- What sending an index file did.
use Rattle.std.specs.Prelude.{◌≡◌, ◌<◌, ◌++◌, ℕ, List, length, Result, Ok, Err}
use Rattle.reg_body.specs.Sent.{SendsAll, SendsUntilFailure, SendsUntilSpent, Sink}
use Rattle.reg_body.specs.declared.bytes.SendFault.{SendFault}
use Rattle.reg_body.specs.declared.bytes.SendFault.TheVariants as send
use Rattle.reg_service_index.specs.declared.fault.IndexFault.{IndexFault}
use Rattle.reg_service_index.specs.declared.fault.IndexFault.TheVariants.{Spent, Store, Write}

-- the fault of a writer
abbrev pub fault_of : SendFault → IndexFault
fault_of send.Write = Write
fault_of send.Spent = Spent

-- A front of the text was sent, in this number of calls, when the store failed. What was sent is
-- never the whole text.
pub record BreaksOff (text : List ℕ) (writes : ℕ) (old new : Sink) : Type 0 where
  pub front : List ℕ
  pub rest : List ℕ
  pub used : ℕ
  pub whole : text ≡ front ++ rest
  pub sends : SendsAll front writes used old new
  pub unsent : 0 < used → 0 < length rest

-- sending the text came to no end
abbrev pub IsBroken : IndexFault → List ℕ → ℕ → Sink → Sink → Type 0
IsBroken Write text writes old new = SendsUntilFailure text writes old new
IsBroken Spent text writes old new = SendsUntilSpent text writes old new
IsBroken Store text writes old new = BreaksOff text writes old new

-- what sending the text did, in at most this number of calls; the result tells how many it took
abbrev pub Streams : Result ℕ IndexFault → List ℕ → ℕ → Sink → Sink → Type 0
Streams (Ok used) text writes old new = SendsAll text writes used old new
Streams (Err fault) text writes old new = IsBroken fault text writes old new
