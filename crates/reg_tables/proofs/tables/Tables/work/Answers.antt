use Rattle.std.proofs.Common.{rules}
use Rattle.reg_tables.proofs.tables.Tables.work.Goals as goal

pub returns : goal.returns
returns g c = search rules fits 100
