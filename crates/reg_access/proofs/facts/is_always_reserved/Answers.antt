use Rattle.std.proofs.Common.{rules}
use Rattle.reg_access.proofs.facts.is_always_reserved.Goals as goal

pub returns-in-Some : goal.returns-in-Some
returns-in-Some c = search rules
