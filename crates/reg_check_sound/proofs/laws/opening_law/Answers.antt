use Rattle.reg_check_sound.proofs.Opening.{audited, opening}
use Rattle.reg_check_sound.proofs.laws.opening_law.Goals as goal

pub returns-clause-opening : goal.returns-clause-opening
returns-clause-opening c = opening

pub returns-clause-audit : goal.returns-clause-audit
returns-clause-audit c = audited
