use Rattle.std.proofs.Common.{rules}
use Rattle.reg_tables.proofs.work.Work.fail.Goals as goal

pub returns-clause-leaves : goal.returns-clause-leaves
returns-clause-leaves g c = search rules fits 100
