use Rattle.std.proofs.Common.{rules}
use Rattle.reg_tables_schema.proofs.same.same_rules.Goals as goal

pub returns-then-eq : goal.returns-then-eq
returns-then-eq c = search rules
