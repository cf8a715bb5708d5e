use Rattle.reg_check_sound.proofs.Opening.{passing}
use Rattle.reg_check_sound.proofs.laws.passing_law.Goals as goal

pub returns : goal.returns
returns c = passing
