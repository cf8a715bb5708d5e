use Rattle.std.proofs.Common.{rules}
use Rattle.reg_line.proofs.base.is_base.Goals as goal

pub returns-then-all_visible : goal.returns-then-all_visible
returns-then-all_visible c = search rules
