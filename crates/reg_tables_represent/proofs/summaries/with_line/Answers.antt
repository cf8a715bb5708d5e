use Rattle.std.proofs.Common.{rules}
use Rattle.reg_tables_represent.proofs.summaries.with_line.Goals as goal

pub returns-in-Some-checked_add : goal.returns-in-Some-checked_add
returns-in-Some-checked_add c = search rules
