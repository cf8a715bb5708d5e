use Rattle.std.proofs.Common.{rules}
use Rattle.reg_tables_schema.proofs.make.make_tables.Goals as goal

pub returns-then-is_err-clause-undone : goal.returns-then-is_err-clause-undone
returns-then-is_err-clause-undone g c = search rules
