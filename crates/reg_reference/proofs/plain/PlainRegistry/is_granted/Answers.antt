use Rattle.std.proofs.Common.{rules}
use Rattle.reg_reference.proofs.plain.PlainRegistry.is_granted.Goals as goal

pub returns-then-is_covered : goal.returns-then-is_covered
returns-then-is_covered c = search rules
