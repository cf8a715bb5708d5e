use Rattle.std.proofs.Common.{rules}
use Rattle.reg_policy.proofs.rows.is_admitted.Goals as goal

pub returns-else-is_owner : goal.returns-else-is_owner
returns-else-is_owner c = search rules
