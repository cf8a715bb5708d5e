-- Requests and commands, one after another, and what a crash leaves at their end.
use Rattle.std.specs.Prelude.{◌≡◌, ◌<◌, ◌⊎◌, ◌++◌, ℕ, Bool, false, true, List, [], ◌∷◌, length, Option, None, Some, take}
use Rattle.sqlite.specs.State.{HasCleanDisk}
use Rattle.sqlite.specs.Tree.{Trees}
use Rattle.sqlite_trees.specs.declared.store.Store.{Ghosts}
use Rattle.reg_body.specs.declared.limits.Limits.{Limits}
use Rattle.reg_model.specs.Crates.{stems}
use Rattle.reg_model.specs.Events.{Answer, Event}
use Rattle.reg_model.specs.Events.Event.{Order}
use Rattle.reg_model.specs.Laws.{IsPrefix}
use Rattle.reg_model.specs.Registry as model
use Rattle.reg_model.specs.Registry.{Text}
use Rattle.reg_model.specs.Sound.{Sound}
use Rattle.reg_model.specs.declared.rule.Rule.TheVariants as rule
use Rattle.reg_model.specs.Steps.{IsFit, Run, unavailable, outcome}
use Rattle.reg_policy.specs.Events.{command_of, reply_of}
use Rattle.reg_api_replies.specs.Replies.{Says}
use Rattle.reg_api_replies.specs.declared.reply.Reply.TheVariants.{Denied}
use Rattle.reg_api_requests.specs.Requests.{request_of}
use Rattle.reg_api_requests.specs.Views.{event_of}
use Rattle.reg_tables_represent.specs.Stands.{Stands}
use Rattle.reg_tables.specs.declared.tables.Tables.{Tables}
use Rattle.reg_tables.specs.Works.{is_stopped, shown}
use Rattle.reg_service.specs.Answered.{Answers, LeavesNoMore, StandsIn}
use Rattle.reg_service.specs.declared.sequences.Call.{Call}
use Rattle.reg_service.specs.declared.sequences.Call.TheVariants.{Request, Command as Commanded}
use Rattle.reg_service.specs.declared.sequences.Response.{Response}
use Rattle.reg_service.specs.declared.sequences.Response.TheVariants.{Reply, Command as Obeyed}

-- the event that a call is
abbrev pub event_at : Limits → Call → Event
event_at limits (Request r) = event_of (request_of limits r)
event_at limits (Commanded c) = Order (command_of c)

-- what a call is told tells the answer
abbrev pub TellsOf : Limits → Call → Answer → Response → Type 0
TellsOf limits (Request r) a (Reply reply) = Says (request_of limits r).asked a reply
TellsOf limits (Commanded c) a (Obeyed it) = a ≡ reply_of it
TellsOf limits c a told = ⊥

-- one call is answered so
abbrev pub IsTold : {S
    : Type 0} → Ghosts S → Limits → Call → Response → Tables S → Tables S → Type 0
IsTold g limits c told old new =
    HasCleanDisk (shown g new) → (s : model.Registry) → StandsIn s (shown g old)
    → (a : Answer) × TellsOf limits c a told × Answers g limits s (event_at limits c) a old new

-- a request that there was no memory to read: it is told so, and is no event
abbrev pub IsUnread : Call → Response → Type 0
IsUnread (Request r) told = told ≡ Reply (Denied rule.S1)
IsUnread (Commanded c) told = ⊥

-- what one call brings is what an event may bring; whatever a request brings is read from it
abbrev pub IsFitCall : Call → Type 0
IsFitCall (Request r) = Unit {0}
IsFitCall (Commanded c) = IsFit (Order (command_of c))

-- The calls are told the answers to these events, one by one: each call is the next event, or a
-- request that there was no memory to read.
abbrev pub AreTold : Limits → List Call → List Event → List Answer → List Response → Type 0
AreTold limits [] [] [] [] = Unit {0}
AreTold limits (c ∷ cs) es xs (t ∷ ts) = (IsUnread c t × AreTold limits cs es xs ts)
    ⊎ ((a : Answer) × (more : List Event) × (others : List Answer)
    × (es ≡ event_at limits c ∷ more) × (xs ≡ a ∷ others) × TellsOf limits c a t
    × AreTold limits cs more others ts)
AreTold limits cs es xs ts = ⊥

-- each event is answered that there was no room
abbrev pub AreNoRoom : List Event → List Answer → Type 0
AreNoRoom [] [] = Unit {0}
AreNoRoom (e ∷ es) (a ∷ as') = (a ≡ unavailable e) × AreNoRoom es as'
AreNoRoom es as' = ⊥

-- How many events came before the one at which the registry stopped; none if it did not stop.
abbrev pub StopsAt : Bool → Bool → List Event → Option ℕ → Type 0
StopsAt old new es None = new ≡ old
StopsAt old new es (Some before) = (old ≡ false) × (new ≡ true) × (before < length es)

-- A registry that a crash may leave after a run: it is the one after some first events, or after
-- one more, if that is the event at which the registry stopped, since its commit was refused; and
-- all but the first events are answered that there was no room. So it holds each change that was
-- acknowledged.
pub record MayBeLeft (limits : Limits) (s : model.Registry) (es : List Event) (xs : List Answer)
    (stop : Option ℕ) (m : model.Registry) : Type 0 where
  pub first : List Event
  pub rest : List Event
  pub told : List Answer
  pub untold : List Answer
  pub at : model.Registry
  pub events : es ≡ first ++ rest
  pub answers : xs ≡ told ++ untold
  pub run : Run limits s first told at
  pub unavailable : AreNoRoom rest untold
  pub state : (m ≡ at)
      ⊎ ((stop ≡ Some (length first)) × (e : Event) × (more : List Event) × (rest ≡ e ∷ more)
      × (m ≡ (outcome limits at e).1))
  pub sound : Sound s → Sound m

-- The events are a run of the registry that was held on entry, and its end is held now: that is
-- sound, and no index file of it lost a line. A crash leaves what the run allows; or, where there
-- was no room for any event, what it could leave on entry. Where a commit was refused before, there
-- is no room for any event, it stays so, and a crash leaves nothing new.
pub record Ran {S : Type 0} (g : Ghosts S) (limits : Limits) (s : model.Registry)
    (entry : Tables S) (es : List Event) (xs : List Answer) (t : model.Registry) (new : Tables S)
    : Type 0 where
  pub run : Run limits s es xs t
  pub sound : Sound s → Sound t
  pub grows : (n : Text) → IsPrefix (stems s n) (stems t n)
  pub shows : StandsIn t (shown g new)
  pub stop : Option ℕ
  pub stops : StopsAt (is_stopped entry) (is_stopped new) es stop
  pub left : (db : Trees) → (shown g new).may_leave db
      → ((shown g entry).may_leave db × AreNoRoom es xs)
      ⊎ ((m : model.Registry) × Stands m db × MayBeLeft limits s es xs stop m)
  pub shut : is_stopped entry ≡ true
      → AreNoRoom es xs × (is_stopped new ≡ true) × LeavesNoMore g entry new

-- the calls are told the answers of a run
abbrev pub HasAnswered : {S : Type 0} → Ghosts S → Limits → model.Registry → Tables S → List Call
    → List Response → Tables S → Type 0
HasAnswered g limits s entry calls told new =
    (es : List Event) × (xs : List Answer) × (t : model.Registry)
    × AreTold limits calls es xs told × Ran g limits s entry es xs t new

-- so many first calls were told the answers of a run, and no other call was answered
abbrev pub HasBegun : {S : Type 0} → Ghosts S → Limits → model.Registry → Tables S → List Call
    → Tables S → Type 0
HasBegun g limits s entry calls new =
    (n : ℕ) × (told : List Response) × HasAnswered g limits s entry (take n calls) told new
