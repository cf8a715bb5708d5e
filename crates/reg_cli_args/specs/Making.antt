-- What the functions that make a command's rules add to it.
use Rattle.std.specs.Prelude.{◌≡◌, [], false, List, Result, IfOk}
use Rattle.std.specs.declared.alloc.AllocError.{AllocError}
use Rattle.clap.specs.Words.{App, Rule, Shape as Level, app_of, rule_of, with_subcommand}
use Rattle.clap.specs.declared.builder.arg.Arg.{Arg}
use Rattle.clap.specs.declared.builder.command.Command.{Command}
use Rattle.clap.specs.declared.builder.command.Command.TheViews.{out-Command as fields_of}
use Rattle.reg_model.specs.Registry.{Text}
use Rattle.reg_cli_args.specs.Grammar.{level, named_level}
use Rattle.reg_cli_args.specs.declared.parameters.HelpEntry.{HelpEntry}
use Rattle.reg_cli_args.specs.declared.parameters.Shape.{Shape}

-- the argument has this rule, and is one of its own command alone
pub record HasRule (r : Rule) (a : Arg) : Type 0 where
  pub rule : rule_of a ≡ r
  pub local : a.global ≡ false

-- the command has these rules, and its arguments are its own alone
pub record HasRules (a : App) (c : Command) : Type 0 where
  pub app : app_of c ≡ a
  pub local : (fields_of c).has_globals ≡ false

-- this is added to the rules that a command has
abbrev pub Adds : (App → App) → Command → Result Command AllocError → Type 0
Adds added old result = IfOk result (λ new. (a : App) → HasRules a old → HasRules (added a) new)

-- the command is a subcommand by these rules
abbrev pub HasLevel : Level → Command → Type 0
HasLevel s c = HasRules (record { top = s; subs = [] }) c

-- the subcommand, once it is made, is added to what a command has
abbrev pub AddsLevel : Result Command AllocError → Command → Result Command AllocError → Type 0
AddsLevel made old result = IfOk result (λ new. (a : App) (s : Level) → IfOk made (HasLevel s)
    → HasRules a old → HasRules (with_subcommand a s) new)

abbrev pub entry_level : Shape → HelpEntry → Level
entry_level shape entry = level shape entry.name.now entry.words

-- a subcommand of this name is made by these rules
abbrev pub Makes : Text → List Rule → Result Command AllocError → Type 0
Makes name rules result = IfOk result (HasLevel (named_level name rules))
