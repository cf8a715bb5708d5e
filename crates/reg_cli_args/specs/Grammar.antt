-- Which words the program and a line of a setup file have: each subcommand with its words and its
-- options. What `clap` makes of words by such rules its own definitions say.
use Rattle.std.specs.Prelude.{◌≡◌, ◌++◌, true, false, List, [], ◌∷◌, codes, fold, map, Some, Result, IfOk}
use Rattle.clap.specs.Words.{App, FailsBy, Rule, Shape as Level, new_rule, subcommand_of, subcommand_rows_of, with_subcommand}
use Rattle.clap.specs.Faults.{fault_of}
use Rattle.clap.specs.Simple.{new_shape}
use Rattle.clap.specs.declared.builder.action.ArgAction.TheVariants.{Set, SetTrue}
use Rattle.clap.specs.declared.error.Error.{Error}
use Rattle.clap.specs.declared.parser.matches.ArgMatches.{ArgMatches}
use Rattle.reg_model.specs.Registry.{Text}
use Rattle.reg_cli_args.specs.declared.parameters.Shape.{Shape}
use Rattle.reg_cli_args.specs.declared.parameters.Shape.TheVariants.{Program, Setup}
use Rattle.reg_cli_args.specs.declared.parameters.Words.{Words}
use Rattle.reg_cli_args.specs.declared.parameters.Words.TheVariants.{Nothing, Login, Crate, CrateAndLogin, Name, Id}

-- an argument with a value
abbrev pub value_rule : Text → Rule
value_rule name = record (new_rule name) { action = Some Set; value_names = 1 }

-- a word that has to stand
abbrev pub word_rule : Text → Rule
word_rule name = record (value_rule name) { required = true }

-- an option with a value, which may be left out
abbrev pub option_rule : Text → Rule
option_rule name = record (value_rule name) { long = Some name }

-- an option with a value, which has to stand
abbrev pub needed_rule : Text → Rule
needed_rule name = record (option_rule name) { required = true }

-- an option without a value
abbrev pub flag_rule : Text → Rule
flag_rule name = record (new_rule name) { long = Some name; action = Some SetTrue }

-- the option that names the registry's file
abbrev pub file_rule : Rule
file_rule = needed_rule (codes "db")

abbrev pub word_rules : Words → List Rule
word_rules Nothing = []
word_rules Login = word_rule (codes "LOGIN") ∷ []
word_rules Crate = word_rule (codes "CRATE") ∷ []
word_rules CrateAndLogin = word_rule (codes "CRATE") ∷ word_rule (codes "LOGIN") ∷ []
word_rules Name = word_rule (codes "NAME") ∷ []
word_rules Id = word_rule (codes "ID") ∷ []

-- where a registry is: its file, or the socket file of its server
abbrev pub registry_rules : List Rule
registry_rules =
    record (option_rule (codes "db")) { is_free = false }
    ∷ record (option_rule (codes "at")) { is_free = false } ∷ []

-- on the command line each subcommand names its registry, in a setup file none does
abbrev pub file_rules : Shape → List Rule
file_rules Program = registry_rules
file_rules Setup = []

-- a subcommand with these words
abbrev pub level : Shape → Text → Words → Level
level shape name words =
    record (new_shape name) { rules = word_rules words ++ file_rules shape }

-- what a token may do
abbrev pub scope_rules : List Rule
scope_rules = option_rule (codes "endpoints") ∷ option_rule (codes "patterns") ∷ []

-- where its text or its digest is from: a setup file has to tell the digest
abbrev pub source_rules : Shape → List Rule
source_rules Program =
    option_rule (codes "random")
    ∷ record (option_rule (codes "digest")) { is_free = false } ∷ []
source_rules Setup = option_rule (codes "digest") ∷ []

abbrev pub with_options : Level → List Rule → Level
with_options s options = record s { rules = s.rules ++ options }

-- the subcommands that need no options
abbrev pub plain_words : List (Text × Words)
plain_words =
    (codes "user-disable", Login)
    ∷ (codes "user-enable", Login)
    ∷ (codes "token-revoke", Id)
    ∷ (codes "reserve", Name)
    ∷ (codes "unreserve", Name)
    ∷ (codes "owner-add", CrateAndLogin)
    ∷ (codes "crate-restrict", Crate)
    ∷ (codes "crate-open", Crate)
    ∷ (codes "reader-add", CrateAndLogin)
    ∷ (codes "reader-remove", CrateAndLogin)
    ∷ []

abbrev pub plain_levels : Shape → List (Text × Words) → List Level
plain_levels shape = map (λ it. level shape it.0 it.1)

-- the subcommands that change a registry
abbrev pub order_levels : Shape → List Level
order_levels shape =
    with_options (level shape (codes "user-add") Login) (option_rule (codes "name") ∷ [])
    ∷ with_options (level shape (codes "token-add") Login) (scope_rules ++ source_rules shape)
    ∷ plain_levels shape plain_words

abbrev pub with_rules : App → List Rule → App
with_rules a rules = record a { top = with_options a.top rules }

abbrev pub with_levels : App → List Level → App
with_levels = fold with_subcommand

-- a line of a setup file: one of the subcommands that change a registry, and no name before it
abbrev pub setup_top : App
setup_top = record {
  top = record (new_shape (codes "setup")) { no_binary_name = true; subcommand_required = true };
  subs = [];
}

unfoldable pub setup_app : App
setup_app = with_levels setup_top (order_levels Setup)

-- the subcommands that are no command of the administrator on what a registry holds; `pipe` has
-- either a file or `--memory`
abbrev pub named_level : Text → List Rule → Level
named_level name rules = record (new_shape name) { rules = rules }

abbrev pub place_rules : List Rule
place_rules =
    record (option_rule (codes "db")) { is_free = false }
    ∷ record (flag_rule (codes "memory")) { is_free = false } ∷ []

abbrev pub number_rules : List Rule
number_rules =
    needed_rule (codes "port") ∷ needed_rule (codes "connections")
    ∷ option_rule (codes "replies") ∷ []

-- whether a trail is told, and where commands are taken
abbrev pub serving_rules : List Rule
serving_rules = flag_rule (codes "trail") ∷ option_rule (codes "admin") ∷ []

abbrev pub service_levels : List Level
service_levels =
    named_level (codes "init") (needed_rule (codes "base") ∷ file_rule ∷ [])
    ∷ named_level (codes "serve") (number_rules ++ serving_rules ++ file_rule ∷ [])
    ∷ named_level (codes "pipe")
    (place_rules ++ option_rule (codes "base") ∷ option_rule (codes "setup") ∷ [])
    ∷ []

abbrev pub other_levels : List Level
other_levels =
    named_level (codes "export") (word_rule (codes "DIR") ∷ file_rule ∷ [])
    ∷ named_level (codes "audit") (file_rule ∷ [])
    ∷ named_level (codes "pause") (needed_rule (codes "at") ∷ [])
    ∷ named_level (codes "line") []
    ∷ named_level (codes "explain") (word_rule (codes "CODE") ∷ [])
    ∷ []

-- the reports
abbrev pub report_words : List (Text × Words)
report_words =
    (codes "users", Nothing)
    ∷ (codes "tokens", Nothing)
    ∷ (codes "crates", Nothing)
    ∷ (codes "access", Crate)
    ∷ []

-- a message: one of the subcommands that change a registry or report on it
unfoldable pub message_app : App
message_app =
    with_levels (with_levels setup_top (order_levels Setup)) (plain_levels Setup report_words)

-- the program's words, its own name first; `--version` stands beside `--help`
abbrev pub program_top : App
program_top = record {
  top = record (new_shape (codes "registry_cli")) {
    subcommand_required = true;
    arg_required_else_help = true;
    has_version = true;
  };
  subs = [];
}

unfoldable pub program_app : App
program_app =
    with_levels (with_levels (with_levels (with_levels program_top service_levels) other_levels)
    (order_levels Program)) (plain_levels Program report_words)

-- the words are judged by these rules, and a subcommand and its values are read by them
pub record IsJudged (a : App) (words : List Text) (result : Result ArgMatches Error) : Type 0 where
  pub fails : FailsBy (fault_of a words) result
  pub reads : IfOk result (λ m. subcommand_rows_of m ≡ subcommand_of a words)
