use Rattle.std.proofs.Common.{rules}
use Rattle.reg_cli_line.proofs.line.exit_of_stop.Goals as goal

pub returns-clause-words : goal.returns-clause-words
returns-clause-words c = search rules
