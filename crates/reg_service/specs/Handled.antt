-- Requests, answered by replies.
use Rattle.std.specs.Prelude.{◌≡◌, ◌⊎◌, ℕ, Option, Some}
use Rattle.sqlite.specs.State.{HasCleanDisk}
use Rattle.sqlite_trees.specs.declared.store.Store.{Ghosts}
use Rattle.reg_body.specs.declared.limits.Limits.{Limits}
use Rattle.reg_model.specs.declared.rule.Rule.TheVariants as rule
use Rattle.reg_model.specs.Effects.{served}
use Rattle.reg_model.specs.Events.{Answer, Asked, FoundCrates}
use Rattle.reg_model.specs.Events.Event.{Ask}
use Rattle.reg_model.specs.Registry.{Registry, Text}
use Rattle.reg_api_replies.specs.Bodies.{found_body}
use Rattle.reg_api_replies.specs.Replies.{Says}
use Rattle.reg_api_replies.specs.declared.head.Kind.TheVariants.{Json}
use Rattle.reg_api_replies.specs.declared.reply.Reply.{Reply}
use Rattle.reg_api_replies.specs.declared.reply.Reply.TheVariants.{Denied, Done, Method}
use Rattle.reg_tables.specs.declared.tables.Tables.{Tables}
use Rattle.reg_tables.specs.Works.{shown}
use Rattle.reg_service.specs.Answered.{Answers, StandsIn}

-- the event is answered so, and the reply tells the answer
abbrev pub RepliesTo : {S : Type 0} → Ghosts S → Limits → Registry → Option Text → Asked → Reply
    → Tables S → Tables S → Type 0
RepliesTo g limits s digest asked reply old new =
    (a : Answer) × Says asked a reply × Answers g limits s (Ask digest asked) a old new

-- it is so whatever registry the tables held
abbrev pub IsReplied : {S : Type 0} → Ghosts S → Limits → Option Text → Asked → Reply → Tables S
    → Tables S → Type 0
IsReplied g limits digest asked reply old new =
    HasCleanDisk (shown g new) → (s : Registry) → StandsIn s (shown g old)
    → RepliesTo g limits s digest asked reply old new

-- the reply to a search of this account; or there was no room
abbrev pub Sought : ℕ → Asked → Registry → Reply → Type 0
Sought account asked s reply =
    (reply ≡ Denied rule.S1) ⊎ Says asked (served s (Some account) asked) reply

-- the reply shows what is found; or there was no room
abbrev pub ListsFound : FoundCrates → Reply → Type 0
ListsFound f (Done kind body) = (kind ≡ Json) × (body.items ≡ found_body f)
ListsFound f (Denied r) = r ≡ rule.S1
ListsFound f (Method m) = ⊥
