use Rattle.std.proofs.Common.{rules}
use Rattle.reg_cli_run.proofs.obeying.add_token.Goals as goal

pub returns : goal.returns
returns c = search rules
