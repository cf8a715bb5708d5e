use Rattle.std.proofs.Common.{rules}
use Rattle.reg_audit.proofs.tokens.has_range.Goals as goal

pub returns-then-same_text : goal.returns-then-same_text
returns-then-same_text c = search rules
