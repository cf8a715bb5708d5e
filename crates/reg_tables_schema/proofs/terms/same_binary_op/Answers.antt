use Rattle.std.proofs.Common.{arith}
use Rattle.reg_tables_schema.proofs.terms.same_binary_op.Goals as goal

pub returns : goal.returns
returns c = grind arith
