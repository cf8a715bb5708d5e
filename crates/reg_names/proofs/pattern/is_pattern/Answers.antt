use Rattle.std.proofs.Common.{rules}
use Rattle.reg_names.proofs.pattern.is_pattern.Goals as goal

pub returns-else-is_empty : goal.returns-else-is_empty
returns-else-is_empty c = search rules
