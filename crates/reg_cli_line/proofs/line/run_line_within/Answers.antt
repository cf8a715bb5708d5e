use Rattle.std.proofs.Common.{rules}
use Rattle.reg_cli_line.proofs.line.run_line_within.Goals as goal

pub returns-in-Ok-write_all-clause-turns : goal.returns-in-Ok-write_all-clause-turns
returns-in-Ok-write_all-clause-turns g c = search rules

pub returns-clause-cause : goal.returns-clause-cause
returns-clause-cause g c = search rules

pub returns-clause-turns : goal.returns-clause-turns
returns-clause-turns g c = search rules
