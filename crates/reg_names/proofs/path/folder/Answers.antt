use Rattle.reg_names.proofs.Words.{arith, common_steps}
use Rattle.reg_names.proofs.Folders.{three}
use Rattle.reg_names.proofs.path.folder.Goals as goal

pub returns-in-3 : goal.returns-in-3
returns-in-3 c = grind (arith, common_steps, three)
