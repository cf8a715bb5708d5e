-- The command that a line of a setup file orders.
use Rattle.std.specs.Prelude.{◌≡◌, ◌==◌, List, if◌then◌else◌, Option, Some, None, option_and_then}
use Rattle.std.specs.List.{list_any, slice_split}
use Rattle.clap.specs.Faults.{fault_of}
use Rattle.clap.specs.Walk.{is_empty}
use Rattle.clap.specs.Words.{App, Row, first_of, subcommand_of, subcommand_rows_of}
use Rattle.clap.specs.declared.error.kind.ErrorKind.{ErrorKind}
use Rattle.clap.specs.declared.error.kind.ErrorKind.TheVariants.{OutOfMemory}
use Rattle.clap.specs.declared.parser.matches.ArgMatches.{ArgMatches}
use Rattle.reg_model.specs.Events.{Command}
use Rattle.reg_model.specs.Registry.{Text}
use Rattle.reg_cli_args.specs.Dashes.{is_dashed}
use Rattle.reg_cli_args.specs.Grammar.{setup_app}
use Rattle.reg_cli_args.specs.Orders.{Ordered, Source, TokenWords, order_from, token_command}
use Rattle.reg_cli_args.specs.Orders.Ordered.{Token, Whole}
use Rattle.reg_cli_args.specs.Orders.Source.{Random, Told}
use Rattle.reg_cli_run.specs.declared.ordering.OrderFault.{OrderFault}
use Rattle.reg_cli_run.specs.declared.ordering.OrderFault.TheVariants.{Memory, Refused, Unreadable}

-- the command that adds a token, where its digest is told
abbrev pub adding : TokenWords → Source → Option Command
adding words (Told digest) = Some (token_command words digest)
adding words (Random file) = None

abbrev pub token_order : TokenWords → Option Command
token_order words = adding words words.source

abbrev pub whole_order : Ordered → Option Command
whole_order (Token words) = token_order words
whole_order (Whole c) = Some c

-- the command that a subcommand orders, by its name and its values
abbrev pub order_of : Option (Text × List Row) → Option Command
order_of None = None
order_of (Some (name, rows)) =
    option_and_then whole_order (order_from name (λ id. first_of id rows))

abbrev pub order_in : ArgMatches → Option Command
order_in words = order_of (subcommand_rows_of words)

-- what stands between the spaces of a line
abbrev pub words_in : Text → List Text
words_in line = slice_split (λ b. b == 32) line

-- the subcommand and its values that these words have, where these rules take them
abbrev pub reading_by : App → List Text → Option (Text × List Row)
reading_by app words =
    if is_empty (fault_of app words) then subcommand_of app words else None

abbrev pub reading_of : List Text → Option (Text × List Row)
reading_of = reading_by setup_app

-- the command of a line; no value begins with `-`
unfoldable pub line_order : Text → Option Command
line_order line = if list_any is_dashed (words_in line) then None
    else order_of (reading_of (words_in line))

-- what a setup makes of what `clap` says of words
abbrev pub fault_by : ErrorKind → OrderFault
fault_by OutOfMemory = Memory
fault_by _ = Unreadable

-- a fault of the words alone: there is no command, or memory was refused
abbrev pub IsUnread : Option Command → OrderFault → Type 0
IsUnread ordered (Refused r) = ⊥
IsUnread ordered Unreadable = ordered ≡ None
IsUnread ordered Memory = Unit {0}
