use Rattle.reg_model.proofs.TrailPlain.{lines_are_read}
use Rattle.reg_model.proofs.TrailTold.{told_change}
use Rattle.reg_model.proofs.TrailUntold.{untold_keep}
use Rattle.reg_model.proofs.laws.line_law.Goals as goal

pub returns-clause-untold : goal.returns-clause-untold
returns-clause-untold c = untold_keep

pub returns-clause-told : goal.returns-clause-told
returns-clause-told c = told_change

pub returns-clause-read : goal.returns-clause-read
returns-clause-read c = lines_are_read
