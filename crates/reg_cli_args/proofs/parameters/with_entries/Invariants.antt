use Rattle.std.proofs.Common.{map, take}
use Rattle.clap.specs.Words.{App}
use Rattle.reg_cli_args.specs.Grammar.{with_levels}
use Rattle.reg_cli_args.specs.Making.{HasRules, entry_level}
use Rattle.reg_cli_args.proofs.parameters.with_entries.Given as goal

-- the entries so far were added
abbrev pub invariant-loop-entry : goal.invariant-loop-entry
invariant-loop-entry l = (a : App) → HasRules a l.fn.command → HasRules (with_levels a (map (entry_level l.fn.shape) (take l.entry-index l.fn.entries))) l.command
