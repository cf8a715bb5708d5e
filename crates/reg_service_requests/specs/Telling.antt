-- What a request comes to, with the line of what it changes.
use Rattle.std.specs.Prelude.{◌≡◌, Bool, true, false, List, codes, None, Option, Some, Result, Ok, Err, String, string_bytes}
use Rattle.std.specs.List.{list_any}
use Rattle.std.specs.declared.alloc.Global.{Global}
use Rattle.std.specs.Option.{option_map}
use Rattle.sqlite.specs.Tree.{Trees}
use Rattle.sqlite_trees.specs.declared.store.Store.{Ghosts}
use Rattle.reg_access.specs.declared.admission.Principal.{Principal}
use Rattle.reg_body.specs.declared.limits.Limits.{Limits}
use Rattle.reg_model.specs.Events.{Asked, action_of}
use Rattle.reg_model.specs.Events.Event.{Ask}
use Rattle.reg_model.specs.Registry.{Text}
use Rattle.reg_tables.specs.declared.work.StoreFault.{StoreFault}
use Rattle.reg_tables.specs.declared.work.Work.{Work}
use Rattle.reg_service_steps.specs.Telling.{TellsIf, differs}
use Rattle.reg_service_requests.specs.Granted.{IsPrincipal, IsAuthorized}
use Rattle.reg_tables.specs.Calling.{Updates}
use Rattle.reg_service_requests.specs.declared.served.Served.{Served}
use Rattle.reg_service_requests.specs.declared.told.TracedServed.{TracedServed}
use Rattle.reg_api_replies.specs.declared.reply.Reply.{Reply}
use Rattle.reg_api_replies.specs.declared.reply.Reply.TheVariants.{Done}
use Rattle.reg_service_requests.specs.Serves.{Serves}

-- the outcome of a request, and its line if one is wanted
abbrev pub ServesTold : Bool → Limits → Option Text → Asked → Trees → Trees → TracedServed → Type 0
ServesTold traced limits digest asked old new it =
    Serves limits digest asked old new it.served
    × TellsIf traced limits (Ask digest asked) old it.line

-- the line that goes with a reply: a denial has none
abbrev pub line_with : Reply → Option (String Global) → Option Text
line_with (Done kind body) found = option_map string_bytes found
line_with _ found = None

-- an outcome that has no line
abbrev pub IsUntold : Result Served StoreFault → Result TracedServed StoreFault → Type 0
IsUntold (Ok served) r = r ≡ Ok (record { served = served; line = None })
IsUntold (Err e) r = r ≡ Err e

-- what the rules on access let pass is served to this caller, and its line is told
abbrev pub GrantsTold : {S : Type 0} → Bool → Limits → Principal → Ghosts S → Asked
    → Result TracedServed StoreFault → Work S → Work S → Type 0
GrantsTold traced limits principal g asked r old new =
    Updates g old new r (λ before after it. (digest : Text)
    → IsAuthorized digest (action_of asked) before
    → IsPrincipal digest (action_of asked) principal before
    → ServesTold traced limits (Some digest) asked before after it)

-- whether some of these are not yet what they are to be
abbrev pub changes : {X : Type 0} → Bool → (X → Bool) → List X → Bool
changes are is xs = list_any (λ x. differs (is x) are) xs

-- the words for what is done, or taken back
abbrev pub mark_word : Bool → Text
mark_word true = codes "yank"
mark_word false = codes "unyank"

abbrev pub owners_word : Bool → Text
owners_word true = codes "add-owners"
owners_word false = codes "remove-owners"
