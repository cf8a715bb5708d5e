-- Requests and commands, with the lines that they leave in a trail.
use Rattle.std.specs.Prelude.{◌≡◌, Bool, true, None, Option, String, string_bytes}
use Rattle.std.specs.declared.alloc.Global.{Global}
use Rattle.std.specs.Option.{option_map}
use Rattle.sqlite.specs.State.{HasCleanDisk}
use Rattle.sqlite_trees.specs.declared.store.Store.{Ghosts}
use Rattle.reg_body.specs.declared.limits.Limits.{Limits}
use Rattle.reg_model.specs.declared.rule.Rule.TheVariants as rule
use Rattle.reg_model.specs.Events.{Answer, Asked, Command, Event}
use Rattle.reg_model.specs.Events.Event.{Ask, Order}
use Rattle.reg_model.specs.Registry.{Registry, Text}
use Rattle.reg_model.specs.Trail.{or_nothing, told}
use Rattle.reg_policy.specs.Events.{reply_of}
use Rattle.reg_api_replies.specs.Replies.{Says}
use Rattle.reg_api_replies.specs.declared.reply.Reply.TheVariants.{Denied}
use Rattle.reg_tables.specs.declared.tables.Tables.{Tables}
use Rattle.reg_tables.specs.Works.{shown}
use Rattle.reg_service.specs.Answered.{Answers, StandsIn}
use Rattle.reg_service.specs.Streamed.{Finds}
use Rattle.reg_service.specs.declared.answered.Answered.{Answered}
use Rattle.reg_service.specs.declared.answered.Answered.TheVariants.{Found, Replied}
use Rattle.reg_service_commands.specs.declared.told.TracedOrder.{TracedOrder}
use Rattle.reg_service_requests.specs.declared.told.TracedReply.{TracedReply}

-- this is what the event that was answered so tells, if it is traced
abbrev pub HasLine : Bool → Limits → Registry → Event → Answer → Option (String Global) → Type 0
HasLine traced limits s e a line =
    traced ≡ true → or_nothing (option_map string_bytes line) ≡ told limits s e a

-- the event is answered so, the reply tells the answer, and the line the change
abbrev pub ActsTo : {S : Type 0} → Ghosts S → Limits → Registry → Bool → Option Text → Asked
    → TracedReply → Tables S → Tables S → Type 0
ActsTo g limits s traced digest asked it old new = (a : Answer) × Says asked a it.reply
    × Answers g limits s (Ask digest asked) a old new
    × HasLine traced limits s (Ask digest asked) a it.line

-- the event is answered by such a reply, or by an index file that is found
abbrev pub AnswersBy : {S : Type 0} → Ghosts S → Limits → Registry → Bool → Option Text → Asked
    → Answered → Tables S → Tables S → Type 0
AnswersBy g limits s traced digest asked (Replied it) old new =
    ActsTo g limits s traced digest asked it old new
AnswersBy g limits s traced digest asked (Found f) old new =
    Finds g limits s digest asked f old new

-- it is so whatever registry the tables held
abbrev pub IsActed : {S : Type 0} → Ghosts S → Limits → Bool → Option Text → Asked → Answered
    → Tables S → Tables S → Type 0
IsActed g limits traced digest asked it old new =
    HasCleanDisk (shown g new) → (s : Registry) → StandsIn s (shown g old)
    → AnswersBy g limits s traced digest asked it old new

-- the same of a command
abbrev pub Orders : {S : Type 0} → Ghosts S → Limits → Registry → Bool → Command → TracedOrder
    → Tables S → Tables S → Type 0
Orders g limits s traced c it old new = Answers g limits s (Order c) (reply_of it.answer) old new
    × HasLine traced limits s (Order c) (reply_of it.answer) it.line

abbrev pub IsOrdered : {S : Type 0} → Ghosts S → Limits → Bool → Command → TracedOrder → Tables S
    → Tables S → Type 0
IsOrdered g limits traced c it old new =
    HasCleanDisk (shown g new) → (s : Registry) → StandsIn s (shown g old)
    → Orders g limits s traced c it old new

-- it is told that there was no room
abbrev pub SaysNoRoom : Answered → Type 0
SaysNoRoom (Replied it) = it.reply ≡ Denied rule.S1
SaysNoRoom (Found f) = ⊥

-- there was no room to read it: it is told so, and there is no line
abbrev pub IsUntold : Answered → Type 0
IsUntold (Replied it) = (it.reply ≡ Denied rule.S1) × (it.line ≡ None)
IsUntold (Found f) = ⊥
