use Rattle.reg_model.proofs.Runs.{steps_agree}
use Rattle.reg_model.proofs.laws.agreement_law.Goals as goal

pub returns : goal.returns
returns c = steps_agree
