use Rattle.reg_line.proofs.Words.{arith, common_steps}
use Rattle.reg_line.proofs.line_read.read_deps.Goals as goal

pub loop-value-preserved : goal.loop-value-preserved
loop-value-preserved c = grind (arith, common_steps)
