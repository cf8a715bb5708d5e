-- Index files, found and then sent.
use Rattle.std.specs.Prelude.{◌≡◌, ◌<◌, length, ℕ, true, false, Bool, IsTrue, Option, Result, Err}
use Rattle.sqlite.specs.State.{HasCleanDisk}
use Rattle.sqlite_trees.specs.declared.store.Store.{Ghosts}
use Rattle.reg_body.specs.declared.limits.Limits.{Limits}
use Rattle.reg_model.specs.Events.{Answer, Asked}
use Rattle.reg_model.specs.Events.Answer.{File}
use Rattle.reg_model.specs.Events.Asked.{Index}
use Rattle.reg_model.specs.Events.Event.{Ask}
use Rattle.reg_model.specs.Registry.{Registry, Text}
use Rattle.reg_model.specs.Steps.{outcome}
use Rattle.reg_body.specs.Sent.{Sink}
use Rattle.reg_api_replies.specs.Texts.{answer_text}
use Rattle.reg_service_index.specs.Files.{SendsNoRoom, SendsSome}
use Rattle.reg_service_index.specs.Found.{HasText}
use Rattle.reg_service_index.specs.Streams.{Streams}
use Rattle.reg_service_index.specs.declared.fault.IndexFault.{IndexFault}
use Rattle.reg_service_index.specs.declared.fault.IndexFault.TheVariants.{Store}
use Rattle.reg_service_index.specs.declared.found.FoundFile.{FoundFile}
use Rattle.reg_tables.specs.declared.tables.Tables.{Tables}
use Rattle.reg_tables.specs.Works.{is_stopped, shown}
use Rattle.reg_service.specs.Answered.{Answers, Stays}

-- The request for an index file is answered by this one, whose text the tables hold and whose
-- length is known; and all stays as it was.
pub record Finds {S : Type 0} (g : Ghosts S) (limits : Limits) (s : Registry)
    (digest : Option Text) (asked : Asked) (f : FoundFile) (old new : Tables S) : Type 0 where
  pub path : Text
  pub asks : asked ≡ Index path
  pub text : Text
  pub answer : outcome limits s (Ask digest asked) ≡ (File text, s)
  pub lines : IsTrue (shown g new).is_open → HasText f text (shown g new).now.trees
  pub len : f.length ≡ length text
  pub goes_on : is_stopped old ≡ false
  pub stays : Stays g s old new

-- the answer is an index file
abbrev pub IsFileAnswer : Answer → Type 0
IsFileAnswer (File text) = Unit {0}
IsFileAnswer _ = ⊥

-- The text of the answer was sent, or a front of it. Where the store broke it off, the answer is an
-- index file: no denial is broken off.
pub record SendsAnswer (asked : Asked) (a : Answer) (close : Bool) (r : Result ℕ IndexFault)
    (writes : ℕ) (before after : Sink) : Type 0 where
  pub sends : Streams r (answer_text asked a close) writes before after
  pub of_file : r ≡ Err Store → IsFileAnswer a

-- the event is answered so, and the text of the answer was sent
abbrev pub StreamsTo : {S : Type 0} → Ghosts S → Limits → Registry → Option Text → Asked → Bool
    → Result ℕ IndexFault → ℕ → Tables S → Tables S → Sink → Sink → Type 0
StreamsTo g limits s digest asked close r writes old new before after =
    (a : Answer) × SendsAnswer asked a close r writes before after
    × Answers g limits s (Ask digest asked) a old new

-- it is so for whatever request the file was found
abbrev pub IsStreamed : {S : Type 0} → Ghosts S → FoundFile → Bool → Result ℕ IndexFault → ℕ
    → Tables S → Tables S → Sink → Sink → Type 0
IsStreamed {S = S} g f close r writes found new before after =
    HasCleanDisk (shown g new) → (limits : Limits) (s : Registry) (digest : Option Text)
    (asked : Asked) (old : Tables S) → Finds g limits s digest asked f old found
    → StreamsTo g limits s digest asked close r writes old new before after

-- What streaming leaves, whatever the disk. Where the store failed once the reply was begun, a call
-- was made; where it had stopped before, the reply tells so.
pub record LeavesStream (close : Bool) (r : Result ℕ IndexFault) (writes : ℕ) (stopped : Bool)
    (before after : Sink) : Type 0 where
  pub some : SendsSome r writes before after
  pub begun : r ≡ Err Store → before.calls < after.calls
  pub unavailable : stopped ≡ true → SendsNoRoom close r writes before after
