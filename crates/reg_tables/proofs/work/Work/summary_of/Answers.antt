use Rattle.reg_tables.proofs.Calls.{read_on, read_wrong, not_called}
use Rattle.reg_tables.proofs.work.Work.summary_of.Goals as goal

pub returns-then-self : goal.returns-then-self
returns-then-self g c = record { told = λ clean. tt; same = λ clean. tt; leaves = not_called g.S.Store c.args.self.now c.requires _ c.if-self.true }

pub returns-in-Ok : goal.returns-in-Ok
returns-in-Ok g c = record { told = c.in-Ok.ensures.found; same = λ clean. (c.in-Ok.ensures.same.only clean).0; leaves = read_on g.S.Store c.args.self.now c.requires _ _ _ c.if-self.false c.in-Ok.ensures.same }

pub returns-in-Err : goal.returns-in-Err
returns-in-Err g c = record { told = λ clean. tt; same = λ clean. tt; leaves = read_wrong g.S.Store c.args.self.now c.requires _ _ _ c.in-Err.ensures.same }
