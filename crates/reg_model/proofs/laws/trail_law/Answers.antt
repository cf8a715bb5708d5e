use Rattle.reg_model.proofs.TrailTellings.{owners_are_told, publications_are_told, yanks_are_told}
use Rattle.reg_model.proofs.Trails.{same_trails, trail_replays}
use Rattle.reg_model.proofs.laws.trail_law.Goals as goal

pub returns-clause-replays : goal.returns-clause-replays
returns-clause-replays c = trail_replays

pub returns-clause-same : goal.returns-clause-same
returns-clause-same c = same_trails

pub returns-clause-publications : goal.returns-clause-publications
returns-clause-publications c = publications_are_told

pub returns-clause-yanks : goal.returns-clause-yanks
returns-clause-yanks c = yanks_are_told

pub returns-clause-owners : goal.returns-clause-owners
returns-clause-owners c = owners_are_told
