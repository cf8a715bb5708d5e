use Rattle.std.proofs.Common.{rules}
use Rattle.reg_names.proofs.range.in_range.Goals as goal

pub returns-then-le : goal.returns-then-le
returns-then-le c = search rules
