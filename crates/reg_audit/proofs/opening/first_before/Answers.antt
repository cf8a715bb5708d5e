use Rattle.std.proofs.Common.{rules}
use Rattle.reg_audit.proofs.opening.first_before.Goals as goal

pub returns-then-not-branch : goal.returns-then-not-branch
returns-then-not-branch c = search rules
