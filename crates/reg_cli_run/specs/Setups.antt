-- What the lines of a setup file come to.
use Rattle.std.specs.Prelude.{◌≡◌, ◌++◌, ◌<◌, ◌≤◌, ℕ, Bool, true, false, List, [], ◌∷◌, length, map, slice_get, take, Option, Some, None, IsSomeAnd, Result, Ok, Err}
use Rattle.std.specs.List.{list_any}
use Rattle.sqlite.specs.State.{HasCleanDisk}
use Rattle.sqlite_trees.specs.declared.store.Store.{Ghosts}
use Rattle.reg_body.specs.declared.limits.Limits.{Limits}
use Rattle.reg_model.specs.declared.rule.AdminRefusal.{AdminRefusal}
use Rattle.reg_policy.specs.declared.event.AdminReply.{AdminReply}
use Rattle.reg_model.specs.Events.{Answer, Command}
use Rattle.reg_model.specs.Events.Answer.{Refused as to_refused}
use Rattle.reg_model.specs.Events.Event.{Order}
use Rattle.reg_model.specs.Registry as model
use Rattle.reg_model.specs.Registry.{Text}
use Rattle.reg_model.specs.Steps.{IsFit}
use Rattle.reg_model.specs.Trail.{told as line_told, trail}
use Rattle.reg_policy.specs.Events.{reply_of}
use Rattle.reg_tables.specs.declared.tables.Tables.{Tables}
use Rattle.reg_tables.specs.Works.{shown}
use Rattle.reg_service.specs.Answered.{Answers, LeavesAlone, StandsIn}
use Rattle.reg_service.specs.Registries.{Running, limits_of, tables_of}
use Rattle.reg_service.specs.Sequences.{Ran}
use Rattle.reg_http.specs.Answering.{GoesOn}
use Rattle.reg_http.specs.Trails.{IsTrailed, Tail, TrailEnd, Trails, tail}
use Rattle.reg_cli_run.specs.LineOrders.{line_order}
use Rattle.reg_cli_run.specs.declared.ordering.OrderFault.{OrderFault}
use Rattle.reg_cli_run.specs.declared.ordering.OrderFault.TheVariants.{Memory, Refused, Unreadable}

abbrev pub is_refused : Answer → Bool
is_refused (to_refused r) = true
is_refused _ = false

-- the reply to a command is the answer to an order
abbrev pub MakesOf : Result AdminReply AdminRefusal → Result AdminReply OrderFault → Type 0
MakesOf (Ok reply) made = made ≡ Ok reply
MakesOf (Err refusal) made = made ≡ Err (Refused refusal)

-- the command is answered so, whatever registry the tables held, and its line is told
abbrev pub IsDoneTold : {S : Type 0} → Ghosts S → Limits → Command → Answer → Tables S → Tables S
    → Tail → Tail → Type 0
IsDoneTold g limits c a old new k0 k1 =
    HasCleanDisk (shown g new) → (s : model.Registry) → StandsIn s (shown g old)
    → Answers g limits s (Order c) a old new × Trails k0 k1 (line_told limits s (Order c) a)

-- this command was ordered, and answered so
pub record Obeys {S : Type 0} (g : Ghosts S) (limits : Limits) (ordered : Option Command)
    (a : Answer) (old new : Tables S) (k0 k1 : Tail) : Type 0 where
  pub command : Command
  pub is : ordered ≡ Some command
  pub fit : IsFit (Order command)
  pub answers : IsDoneTold g limits command a old new k0 k1

-- one order: the command was done or refused, or the words order none, or memory was refused
abbrev pub IsObeyed : {S : Type 0} → Ghosts S → Limits → Option Command → Tables S → Tables S
    → Tail → Tail → Result AdminReply OrderFault → Type 0
IsObeyed g limits ordered old new k0 k1 (Ok reply) =
    Obeys g limits ordered (reply_of (Ok reply)) old new k0 k1
IsObeyed g limits ordered old new k0 k1 (Err (Refused r)) =
    Obeys g limits ordered (to_refused r) old new k0 k1
IsObeyed g limits ordered old new k0 k1 (Err Unreadable) =
    (ordered ≡ None) × (new ≡ old) × (k1 ≡ k0)
IsObeyed g limits ordered old new k0 k1 (Err Memory) = (new ≡ old) × (k1 ≡ k0)

-- What was ordered was obeyed, and is told. Whatever is wrong with the store, the trail got a text,
-- and the registry goes on.
pub record ObeysOrder {S T : Type 0} (g : Ghosts S) (ordered : Option Command)
    (told_of : T → Option Text) (old new : Running S) (k0 k1 : TrailEnd T)
    (result : Result AdminReply OrderFault) : Type 0 where
  pub obeyed : IsObeyed g (limits_of old) ordered (tables_of old) (tables_of new)
      (tail (told_of k0.end.inner) k0) (tail (told_of k1.end.inner) k1) result
  pub told : IsTrailed (tail (told_of k0.end.inner) k0) (tail (told_of k1.end.inner) k1)
  pub keeps : GoesOn g old new

module _ {S : Type 0} (g : Ghosts S) (limits : Limits) (s : model.Registry) (entry : Tables S)
    (lines : List Text) (now : Tables S) where
  -- The commands of the first lines were done, one after another, and none of so many was refused.
  -- Then the commands of the next lines were given these answers. All of it is a run of the
  -- registry, which holds its end.
  pub record HasDone (count : ℕ) (last : List Answer) : Type 0 where
    pub after : model.Registry
    pub commands : List Command
    pub told : List Answer
    pub ordered : map line_order (take (length (told ++ last)) lines) ≡ map Some commands
    pub none_refused : list_any is_refused told ≡ false
    pub count_is : length told ≡ count
    pub ran : Ran g limits s entry (map Order commands) (told ++ last) after now

  -- the commands of so many lines were done and no more, and a crash leaves what they made, if
  -- there were any, alone
  pub record HasDoneAlone (count : ℕ) : Type 0 where
    pub done : HasDone count []
    pub alone : 0 < count → LeavesAlone done.after (shown g now)

  -- the line at this place orders nothing
  abbrev pub IsNoOrder : ℕ → Type 0
  IsNoOrder place = IsSomeAnd (slice_get lines place) (λ line. line_order line ≡ None)

  -- all lines were done; or those before one that was refused or is no command; or those before
  -- memory was refused
  abbrev pub IsSetUp : Result (Unit {0}) OrderFault → Type 0
  IsSetUp (Ok _) = HasDoneAlone (length lines)
  IsSetUp (Err (Refused r)) =
      (count : ℕ) × (count < length lines) × HasDone count (to_refused r ∷ [])
  IsSetUp (Err Unreadable) = (count : ℕ) × IsNoOrder count × HasDoneAlone count
  IsSetUp (Err Memory) = (count : ℕ) × (count ≤ length lines) × HasDoneAlone count

  -- the trail of what was done
  abbrev pub trail_done : (count : ℕ) (last : List Answer) → HasDone count last → Text
  trail_done count last it = trail limits s (map Order it.commands) (it.told ++ last)

  abbrev pub trail_set_up : (result : Result (Unit {0}) OrderFault) → IsSetUp result → Text
  trail_set_up (Ok _) it = trail_done (length lines) [] it.done
  trail_set_up (Err (Refused r)) (count, few, it) = trail_done count (to_refused r ∷ []) it
  trail_set_up (Err Unreadable) (count, none, it) = trail_done count [] it.done
  trail_set_up (Err Memory) (count, few, it) = trail_done count [] it.done

  -- so many lines were done, and their trail is told
  abbrev pub HasDoneTold : Tail → Tail → ℕ → Type 0
  HasDoneTold k0 k1 count =
      (it : HasDoneAlone count) × Trails k0 k1 (trail_done count [] it.done)

  -- the lines were done as far as the result says, and their trail is told
  abbrev pub IsSetUpTraced : Tail → Tail → Result (Unit {0}) OrderFault → Type 0
  IsSetUpTraced k0 k1 result =
      (it : IsSetUp result) × Trails k0 k1 (trail_set_up result it)

-- The lines were done, as far as the result says, whatever registry was held, and their trail is
-- told. Whatever is wrong with the store, the trail got a text in no more calls than it had left.
pub record SetsUpTraced {S T : Type 0} (g : Ghosts S) (lines : List Text) (old new : Running S)
    (told_of : T → Option Text) (k0 k1 : TrailEnd T) (result : Result (Unit {0}) OrderFault)
    : Type 0 where
  pub done : HasCleanDisk (shown g (tables_of new)) → (s : model.Registry)
      → StandsIn s (shown g (tables_of old))
      → IsSetUpTraced g (limits_of old) s (tables_of old) lines (tables_of new)
      (tail (told_of k0.end.inner) k0) (tail (told_of k1.end.inner) k1) result
  pub told : IsTrailed (tail (told_of k0.end.inner) k0) (tail (told_of k1.end.inner) k1)
  pub keeps : GoesOn g old new
