-- What a command comes to, with the line of what it changes.
use Rattle.std.specs.Prelude.{◌≡◌, Bool, true, false, List, codes, None, Option, Result, Ok, Err, String, string_bytes}
use Rattle.std.specs.declared.alloc.Global.{Global}
use Rattle.std.specs.Option.{option_map}
use Rattle.sqlite.specs.Tree.{Trees}
use Rattle.reg_body.specs.declared.limits.Limits.{Limits}
use Rattle.reg_model.specs.declared.rule.AdminRefusal.{AdminRefusal}
use Rattle.reg_model.specs.Events.{Command}
use Rattle.reg_model.specs.Events.Event.{Order}
use Rattle.reg_model.specs.Registry.{Text}
use Rattle.reg_policy.specs.Events.{reply_of}
use Rattle.reg_policy.specs.declared.event.AdminReply.{AdminReply}
use Rattle.reg_policy.specs.declared.event.AdminReply.TheVariants.{Done}
use Rattle.reg_tables.specs.Calling.{Updates}
use Rattle.reg_tables.specs.declared.work.StoreFault.{StoreFault}
use Rattle.reg_tables.specs.declared.work.Work.{Work}
use Rattle.sqlite_trees.specs.declared.store.Store.{Ghosts}
use Rattle.reg_service_steps.specs.Telling.{TellsIf, line_if}
use Rattle.reg_service_commands.specs.Orders.{HasOutcome}
use Rattle.reg_service_commands.specs.declared.told.TracedOrder.{TracedOrder}

-- the outcome of a command, and its line if one is wanted
abbrev pub OrdersTold : Bool → Limits → Command → Trees → Trees → TracedOrder → Type 0
OrdersTold traced limits c old new it =
    HasOutcome limits (Order c) (reply_of it.answer) old new
    × TellsIf traced limits (Order c) old it.line

-- the line that goes with an answer: a refusal has none
abbrev pub line_of_answer : Result AdminReply AdminRefusal → Option (String Global) → Option Text
line_of_answer (Ok reply) found = option_map string_bytes found
line_of_answer (Err g) found = None

-- it is done, and this is its line, if it is to be told
abbrev pub IsDoneTold : Bool → List Text → TracedOrder → Type 0
IsDoneTold told words it =
    (it.answer ≡ Ok Done) × (option_map string_bytes it.line ≡ line_if told words)

-- an answer that has no line
abbrev pub IsUntold : Result (Result AdminReply AdminRefusal) StoreFault
    → Result TracedOrder StoreFault → Type 0
IsUntold (Ok answer) r = r ≡ Ok (record { answer = answer; line = None })
IsUntold (Err e) r = r ≡ Err e

-- the command is done or refused, and told, under these limits; or under any
abbrev pub ObeysToldUnder : {S : Type 0} → Bool → Limits → Ghosts S → Command
    → Result TracedOrder StoreFault → Work S → Work S → Type 0
ObeysToldUnder traced limits g c r old new = Updates g old new r (OrdersTold traced limits c)

abbrev pub ObeysTold : {S : Type 0} → Bool → Ghosts S → Command → Result TracedOrder StoreFault
    → Work S → Work S → Type 0
ObeysTold traced g c r old new =
    Updates g old new r (λ before after it. (limits : Limits)
    → OrdersTold traced limits c before after it)

-- the words for what is done, or taken back
abbrev pub enabled_word : Bool → Text
enabled_word true = codes "user-enable"
enabled_word false = codes "user-disable"

abbrev pub restricted_word : Bool → Text
restricted_word true = codes "crate-restrict"
restricted_word false = codes "crate-open"
