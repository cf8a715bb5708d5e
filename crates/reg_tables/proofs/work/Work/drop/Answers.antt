use Rattle.std.proofs.Common.{rules}
use Rattle.reg_tables.proofs.work.Work.drop.Goals as goal

pub returns : goal.returns
returns g c = search rules fits 100
