use Rattle.std.proofs.Common.{rules}
use Rattle.reg_audit.proofs.tokens.is_next.Goals as goal

pub returns-then-from : goal.returns-then-from
returns-then-from c = search rules
