use Rattle.reg_model.proofs.IndexPaths.{there, unbroken}
use Rattle.reg_model.proofs.laws.index_law.Goals as goal

pub returns : goal.returns
returns c s digest path sound = (there s digest path, unbroken s digest path sound)
