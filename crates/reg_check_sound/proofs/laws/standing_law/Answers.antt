use Rattle.reg_check_sound.proofs.Opening.{holding_passes}
use Rattle.reg_check_sound.proofs.laws.standing_law.Goals as goal

pub returns : goal.returns
returns c = holding_passes
