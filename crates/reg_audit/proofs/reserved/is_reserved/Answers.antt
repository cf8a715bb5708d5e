use Rattle.std.proofs.Common.{rules}
use Rattle.reg_audit.proofs.reserved.is_reserved.Goals as goal

pub returns-then-same_text : goal.returns-then-same_text
returns-then-same_text c = search rules
