use Rattle.reg_reference_lists.proofs.Words.{arith, common_steps}
use Rattle.reg_reference_lists.proofs.publications.entry_list.Goals as goal

pub loop-publication-preserved : goal.loop-publication-preserved
loop-publication-preserved c = grind (arith, common_steps)
