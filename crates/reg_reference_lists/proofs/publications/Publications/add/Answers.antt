use Rattle.reg_reference_lists.proofs.Words.{arith, common_steps}
use Rattle.reg_reference_lists.proofs.publications.Publications.add.Goals as goal

pub returns-clause-ok : goal.returns-clause-ok
returns-clause-ok c = grind (arith, common_steps)
