-- What is printed, and how a run ends by it.
use Rattle.std.specs.Prelude.{◌≡◌, ◌++◌, ℕ, [], codes, decimal, Option, Some, None, Result, Ok, Err, string_bytes}
use Rattle.sqlite_trees.specs.declared.store.Store.{Ghosts}
use Rattle.reg_body.specs.declared.limits.Limits.{Limits}
use Rattle.reg_body.specs.Sent.{Sends, Sink}
use Rattle.reg_body.specs.declared.bytes.SendFault.{SendFault}
use Rattle.reg_body.specs.declared.bytes.SendFault.TheVariants.{Spent, Write}
use Rattle.reg_model.specs.declared.rule.AdminRefusal.{AdminRefusal}
use Rattle.reg_model.specs.Events.{Command}
use Rattle.reg_model.specs.Events.Event.{Order}
use Rattle.reg_model.specs.Registry.{Text}
use Rattle.reg_policy.specs.Events.{reply_of}
use Rattle.reg_policy.specs.declared.event.AdminReply.{AdminReply}
use Rattle.reg_policy.specs.declared.event.AdminReply.TheVariants.{Done, Id, Text as Report}
use Rattle.reg_service.specs.Answered.{IsAnswered}
use Rattle.reg_tables.specs.declared.tables.Tables.{Tables}
use Rattle.reg_cli_line.specs.declared.exit.Exit.{Exit}
use Rattle.reg_cli_run.specs.Exits.{EndsRefused, EndsWith}

-- how many calls a text takes at most
abbrev pub most_calls : ℕ
most_calls = 100000000

-- the end of a run that printed: standard output may have failed
abbrev pub EndsPrinting : Result ℕ SendFault → Exit → Type 0
EndsPrinting (Ok calls) exit = EndsWith 0 [] exit
EndsPrinting (Err Write) exit = EndsWith 3 (codes "write fault") exit
EndsPrinting (Err Spent) exit = EndsWith 3 (codes "too many turns") exit

-- the text was printed whole, or a front of it where the exit says why
abbrev pub Prints : Text → Sink → Sink → Exit → Type 0
Prints text old new exit =
    (sent : Result ℕ SendFault) × Sends sent text most_calls old new × EndsPrinting sent exit

-- the text of a token stands behind a space
abbrev pub after_space : Option Text → Text
after_space None = []
after_space (Some text) = codes " " ++ text

-- a new token: its number, and its text where that was made here
abbrev pub token_line : ℕ → Option Text → Text
token_line id text = (decimal id ++ after_space text) ++ codes "\n"

-- what a reply tells
abbrev pub told : AdminReply → Option Text → Text
told Done text = []
told (Id id) text = token_line id text
told (Report report) text = string_bytes report

-- the end of a run by the reply to its command: only what was done is told
abbrev pub EndsReply : Result AdminReply AdminRefusal → Option Text → Sink → Sink → Exit → Type 0
EndsReply (Ok reply) text old new exit = Prints (told reply text) old new exit
EndsReply (Err refusal) text old new exit = EndsRefused refusal exit × (new ≡ old)

-- the command was answered, and its reply told
pub record IsObeyed {S : Type 0} (g : Ghosts S) (limits : Limits) (command : Command)
    (text : Option Text) (old new : Tables S) (w0 w1 : Sink) (exit : Exit) : Type 0 where
  pub reply : Result AdminReply AdminRefusal
  pub answers : IsAnswered g limits (Order command) (reply_of reply) old new
  pub ends : EndsReply reply text w0 w1 exit
