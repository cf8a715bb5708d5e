use Rattle.reg_model.proofs.Denials.{access_first}
use Rattle.reg_model.proofs.laws.access_law.Goals as goal

pub returns : goal.returns
returns c = access_first
