use Rattle.std.proofs.Common.{rules}
use Rattle.reg_cli_run.proofs.service.read_port.Goals as goal

pub returns : goal.returns
returns c = search rules
