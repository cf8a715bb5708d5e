use Rattle.std.proofs.Common.{rules}
use Rattle.reg_audit.proofs.summaries.is_right.Goals as goal

pub returns-then-summary-numbers : goal.returns-then-summary-numbers
returns-then-summary-numbers c = search rules
