use Rattle.reg_body.proofs.FrameFacts.{no_prefix}
use Rattle.reg_body.proofs.laws.prefix_law.Goals as goal

pub returns : goal.returns
returns c = no_prefix
