use Rattle.reg_line.proofs.Words.{arith, common_steps}
use Rattle.reg_line.proofs.index_file.file.Goals as goal

pub loop-entry-preserved : goal.loop-entry-preserved
loop-entry-preserved c = grind (arith, common_steps)
