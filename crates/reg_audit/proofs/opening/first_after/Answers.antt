use Rattle.std.proofs.Common.{rules}
use Rattle.reg_audit.proofs.opening.first_after.Goals as goal

pub returns : goal.returns
returns c = search rules

pub returns-then-not-branch-3 : goal.returns-then-not-branch-3
returns-then-not-branch-3 c = search rules
