use Rattle.reg_names.proofs.Words.{arith, common_steps}
use Rattle.reg_names.proofs.range.canon_string.Goals as goal

pub loop-b-preserved : goal.loop-b-preserved
loop-b-preserved c = grind (arith, common_steps)
