use Rattle.reg_model.proofs.Growth.{stems_grow}
use Rattle.reg_model.proofs.Soundness.{runs_keep_sound}
use Rattle.reg_model.proofs.laws.growth_law.Goals as goal

pub returns-clause-grows : goal.returns-clause-grows
returns-clause-grows c = stems_grow

pub returns-clause-sound : goal.returns-clause-sound
returns-clause-sound c = runs_keep_sound
