use Rattle.std.proofs.Common.{rules}
use Rattle.reg_names.proofs.canonical.collides.Goals as goal

pub returns : goal.returns
returns c = search rules
