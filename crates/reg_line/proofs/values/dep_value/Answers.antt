use Rattle.std.proofs.Common.{rules}
use Rattle.reg_line.proofs.values.dep_value.Goals as goal

pub returns-in_ok-own-in-Some : goal.returns-in_ok-own-in-Some
returns-in_ok-own-in-Some c = search rules
