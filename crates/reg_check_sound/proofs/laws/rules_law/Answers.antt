use Rattle.reg_check_sound.proofs.Opening.{schema_keeps}
use Rattle.reg_check_sound.proofs.laws.rules_law.Goals as goal

pub returns : goal.returns
returns c = schema_keeps
