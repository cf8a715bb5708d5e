use Rattle.reg_model.proofs.Wider.{wider_allows, wider_orders}
use Rattle.reg_model.proofs.laws.wider_law.Goals as goal

pub returns-clause-requests : goal.returns-clause-requests
returns-clause-requests c l m s digest asked wide = wider_allows l m wide s digest asked

pub returns-clause-commands : goal.returns-clause-commands
returns-clause-commands c l m s command wide = wider_orders l m wide s command
