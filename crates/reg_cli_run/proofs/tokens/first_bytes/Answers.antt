use Rattle.std.proofs.Common.{rules}
use Rattle.reg_cli_run.proofs.tokens.first_bytes.Goals as goal

pub returns-in-Ok : goal.returns-in-Ok
returns-in-Ok g c = search rules
