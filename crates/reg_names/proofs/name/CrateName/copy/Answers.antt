use Rattle.std.proofs.Common.{rules}
use Rattle.reg_names.proofs.name.CrateName.copy.Goals as goal

pub returns : goal.returns
returns c = search rules
