use Rattle.std.proofs.Common.{rules}
use Rattle.reg_tables_represent.proofs.summaries.higher.Goals as goal

pub returns-then-is_next : goal.returns-then-is_next
returns-then-is_next c = search rules
