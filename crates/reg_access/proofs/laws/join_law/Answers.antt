use Rattle.reg_access.proofs.JoinLaw.{joins_decide}
use Rattle.reg_access.proofs.laws.join_law.Goals as goal

pub returns : goal.returns
returns c ids s db holds digest a fit = joins_decide ids s db holds.sound holds.stands digest a fit
