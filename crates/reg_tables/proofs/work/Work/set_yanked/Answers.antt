use Rattle.reg_tables.proofs.Calls.{went_on, went_wrong, not_called}
use Rattle.reg_tables.proofs.work.Work.set_yanked.Goals as goal

pub returns-then-self : goal.returns-then-self
returns-then-self g c = record { told = λ clean. tt; leaves = not_called g.S.Store c.args.self.now c.requires _ c.if-self.true }

pub returns-in-Ok : goal.returns-in-Ok
returns-in-Ok g c = record { told = λ clean. (c.in-Ok.ensures.stands clean, c.in-Ok.ensures.tells clean); leaves = went_on g.S.Store c.args.self.now c.requires _ _ _ c.if-self.false c.in-Ok.ensures.leaves }

pub returns-in-Err : goal.returns-in-Err
returns-in-Err g c = record { told = λ clean. tt; leaves = went_wrong g.S.Store c.args.self.now c.requires _ _ _ c.in-Err.ensures.leaves }
