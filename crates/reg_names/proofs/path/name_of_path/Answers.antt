use Rattle.reg_names.proofs.LastPart.{named_at}
use Rattle.reg_names.proofs.path.name_of_path.Goals as goal

pub returns-clause-value : goal.returns-clause-value
returns-clause-value c = named_at c.named_by.result c.args.path.now c.named_by.ensures
