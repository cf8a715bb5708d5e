use Rattle.std.proofs.Common.{rules}
use Rattle.reg_policy.proofs.orders.needed.Goals as goal

pub returns-else-is_there : goal.returns-else-is_there
returns-else-is_there c = search rules
