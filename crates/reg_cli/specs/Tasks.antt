-- What the words of a subcommand ask for, and what doing it comes to.
use Rattle.std.specs.Prelude.{◌≡◌, ◌⊎◌, Bool, false, [], codes, if◌then◌else◌, Option, Some, None, option_and_then, option_map, Result, Ok, Err}
use Rattle.std.specs.Str.{bytes_eq}
use Rattle.sqlite_trees.specs.declared.store.Store.{Ghosts}
use Rattle.reg_body.specs.declared.limits.Limits.{Limits}
use Rattle.reg_body.specs.Sent.{Sink}
use Rattle.reg_model.specs.Events as model
use Rattle.reg_model.specs.Events.Event.{Order as to_order}
use Rattle.reg_model.specs.Registry.{Registry, Text}
use Rattle.reg_model.specs.Steps.{IsFit}
use Rattle.reg_policy.specs.Events.{command_of}
use Rattle.reg_tables.specs.declared.tables.Tables.{Tables}
use Rattle.reg_cli_line.specs.declared.exit.Exit.{Exit}
use Rattle.reg_cli_args.specs.Orders.{Given, Ordered, TokenWords, order_from, report_command, source_of, token_command, words_of}
use Rattle.reg_cli_args.specs.Orders.Ordered.{Token, Whole}
use Rattle.reg_cli_run.specs.Exits.{EndsWith}
use Rattle.reg_cli_run.specs.Folders.{EndsExporting}
use Rattle.reg_cli_run.specs.Printing.{IsObeyed}
use Rattle.reg_service.specs.Answered.{StandsIn}
use Rattle.reg_service.specs.Looked.{Looked}
use Rattle.reg_tables.specs.Works.{shown}
use Rattle.sqlite.specs.State.{HasCleanDisk}
use Rattle.reg_cli_run.specs.Tokens.{Makes}
use Rattle.reg_cli.specs.declared.administering.AdminTask.{AdminTask}
use Rattle.reg_cli.specs.declared.administering.AdminTask.TheVariants.{AddToken, Command, Export}
use Rattle.reg_cli_run.specs.declared.tokens.TokenMade.{TokenMade}
use Rattle.reg_cli.specs.declared.using.FileTask.{FileTask}
use Rattle.reg_cli.specs.declared.using.FileTask.TheVariants as uses

-- what is wanted of a registry
pub data Wanted : Type 0 where
  -- the index as files: their folder, and the registry's own file
  Exports : Text → Text → Wanted
  Orders : Ordered → Wanted

abbrev pub task_of : AdminTask → Wanted
task_of (Export folder file) = Exports folder.now file.now
task_of (Command command) = Orders (Whole (command_of command))
task_of (AddToken token) = Orders (Token (words_of token))

abbrev pub export_from : Given → Option Wanted
export_from given = option_and_then (λ folder. option_map (Exports folder) (given (codes "db")))
    (given (codes "DIR"))

-- a report, or else what changes a registry
abbrev pub report_or : Option model.Command → Option Ordered → Option Wanted
report_or (Some report) ordered = Some (Orders (Whole report))
report_or None ordered = option_map Orders ordered

-- what the words of the subcommand with this name ask for
abbrev pub task_from : Text → Given → Option Wanted
task_from name given = if bytes_eq name (codes "export") then export_from given
    else report_or (report_command name given) (order_from name given)

-- a command is fit for a registry
abbrev pub IsFitTask : AdminTask → Type 0
IsFitTask (Command command) = IsFit (to_order (command_of command))
IsFitTask _ = Unit {0}

abbrev pub IsFitUse : FileTask → Type 0
IsFitUse (uses.AdminTask task) = IsFitTask task.now
IsFitUse _ = Unit {0}

module _ {S : Type 0} (g : Ghosts S) (limits : Limits) where
  -- the token is added, once it is made
  abbrev pub IsAdded : TokenWords → Result TokenMade Exit → Tables S → Tables S → Sink → Sink
      → Exit → Type 0
  IsAdded words (Ok made) old new w0 w1 exit =
      IsObeyed g limits (token_command words made.digest) made.text old new w0 w1 exit
  IsAdded words (Err fault) old new w0 w1 exit = (exit ≡ fault) × (new ≡ old) × (w1 ≡ w0)

  -- A command was answered, and its reply told. An export looks at the registry, and its files are
  -- written or it ends with a fault; a folder of the file system tells no files.
  abbrev pub IsTaskDone : AdminTask → Tables S → Tables S → Sink → Sink → Exit → Type 0
  IsTaskDone (Command command) old new w0 w1 exit =
      IsObeyed g limits (command_of command) None old new w0 w1 exit
  IsTaskDone (AddToken token) old new w0 w1 exit =
      (made : Result TokenMade Exit) × Makes (source_of token.source) made
      × IsAdded (words_of token) made old new w0 w1 exit
  IsTaskDone (Export folder file) old new w0 w1 exit = (w1 ≡ w0) × Looked g old new
      × (HasCleanDisk (shown g new) → (s : Registry) → StandsIn s (shown g old)
      → EndsWith 0 [] exit ⊎ EndsExporting exit)

  -- The registry is as it was where it was only made or opened. What a stream on standard input is
  -- served, `run_pipe` tells.
  abbrev pub IsUsed : FileTask → Tables S → Tables S → Exit → Type 0
  IsUsed (uses.Make base) old new exit = (new ≡ old) × EndsWith 0 [] exit
  IsUsed uses.Check old new exit = (new ≡ old) × EndsWith 0 [] exit
  IsUsed (uses.AdminTask task) old new exit =
      (w0 w1 : Sink) × IsTaskDone task.now old new w0 w1 exit
  IsUsed (uses.Pipe setup) old new exit = Unit {0}

-- A check is done only where the file was closed too. All else ends as it did.
abbrev pub EndsUse : FileTask → Bool → Exit → Exit → Type 0
EndsUse uses.Check closed done exit = closed ≡ false → EndsWith 3 (codes "storage") exit
EndsUse wanted closed done exit = exit ≡ done
