use Rattle.reg_model.proofs.Plain.{plain_denials, plain_finds, plain_outcomes}
use Rattle.reg_model.proofs.laws.plain_law.Goals as goal

pub returns-clause-denied : goal.returns-clause-denied
returns-clause-denied c limits s digest asked free = plain_denials s free limits digest asked

pub returns-clause-outcomes : goal.returns-clause-outcomes
returns-clause-outcomes c limits s digest asked free = plain_outcomes s free limits digest asked

pub returns-clause-finds : goal.returns-clause-finds
returns-clause-finds c s who q most free = plain_finds s free who q most
