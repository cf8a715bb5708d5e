use Rattle.std.proofs.Common.{rules}
use Rattle.reg_tables_schema.proofs.ours.edition_of.Goals as goal

pub returns-then-eq : goal.returns-then-eq
returns-then-eq c = search rules
