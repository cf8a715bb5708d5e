use Rattle.reg_model.proofs.Denials.{denials_name}
use Rattle.reg_model.proofs.laws.names_law.Goals as goal

pub returns : goal.returns
returns c = denials_name
