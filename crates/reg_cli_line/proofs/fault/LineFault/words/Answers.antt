use Rattle.std.proofs.Common.{rules}
use Rattle.reg_cli_line.proofs.fault.LineFault.words.Goals as goal

pub returns-in-Body : goal.returns-in-Body
returns-in-Body c = search rules
