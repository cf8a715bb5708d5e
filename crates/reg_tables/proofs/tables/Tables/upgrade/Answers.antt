use Rattle.std.proofs.Common.{rules}
use Rattle.reg_tables.proofs.tables.Tables.upgrade.Goals as goal

pub returns-then-self : goal.returns-then-self
returns-then-self g c = search rules fits 300

pub returns : goal.returns
returns g c = search rules fits 100
