use Rattle.reg_tables.proofs.Calls.{asked_on, asked_wrong, not_called}
use Rattle.reg_tables.proofs.work.Work.select_list.Goals as goal

pub returns-then-self-clause-leaves : goal.returns-then-self-clause-leaves
returns-then-self-clause-leaves g c = not_called g.S.Store c.args.self.now c.requires.at_work _ c.if-self.true

pub returns-in-Ok-clause-same : goal.returns-in-Ok-clause-same
returns-in-Ok-clause-same g c clean = (c.in-Ok.ensures.only clean).0

pub returns-in-Ok-clause-leaves : goal.returns-in-Ok-clause-leaves
returns-in-Ok-clause-leaves g c = asked_on g.S.Store c.args.self.now c.requires.at_work _ _ _ c.if-self.false c.in-Ok.ensures

pub returns-in-Err-clause-leaves : goal.returns-in-Err-clause-leaves
returns-in-Err-clause-leaves g c = asked_wrong g.S.Store c.args.self.now c.requires.at_work _ _ _ c.in-Err.ensures
