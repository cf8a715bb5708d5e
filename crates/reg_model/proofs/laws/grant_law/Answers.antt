use Rattle.reg_model.proofs.Granted.{grants_are_policy}
use Rattle.reg_model.proofs.laws.grant_law.Goals as goal

pub returns : goal.returns
returns c = grants_are_policy
