use Rattle.reg_model.proofs.TrailAskers.{lines_name_askers}
use Rattle.reg_model.proofs.Trails.{trail_of_one, trails_join}
use Rattle.reg_model.proofs.laws.telling_law.Goals as goal

pub returns-clause-one : goal.returns-clause-one
returns-clause-one c = trail_of_one

pub returns-clause-join : goal.returns-clause-join
returns-clause-join c = trails_join

pub returns-clause-who : goal.returns-clause-who
returns-clause-who c = lines_name_askers
