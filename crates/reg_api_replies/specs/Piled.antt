-- What putting a text behind one that waits did.
use Rattle.std.specs.Prelude.{◌≡◌, ◌<◌, ◌++◌, ℕ, List, length, Result, Ok, Err}
use Rattle.reg_body.specs.Sent.{IsStopped, SendsAll, Sink}
use Rattle.reg_body.specs.declared.bytes.SendFault.{SendFault}

-- A text was put behind one that waits: some of both was sent in this number of calls, the rest
-- waits. What was sent is never the whole.
pub record Piles (waiting text rest : List ℕ) (writes used : ℕ) (old new : Sink) : Type 0 where
  pub sent : List ℕ
  pub whole : waiting ++ text ≡ sent ++ rest
  pub sends : SendsAll sent writes used old new
  pub waits : 0 < used → 0 < length rest

-- what putting a text behind one that waits did
abbrev pub Puts : Result ℕ SendFault → List ℕ → List ℕ → List ℕ → ℕ → Sink → Sink → Type 0
Puts (Ok used) waiting text rest writes old new = Piles waiting text rest writes used old new
Puts (Err fault) waiting text rest writes old new =
    IsStopped fault (waiting ++ text) writes old new
