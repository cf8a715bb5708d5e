use Rattle.std.proofs.Common.{subst}
use Rattle.reg_tables_represent.specs.Calls.{TellsReserved}
use Rattle.reg_tables.specs.Works.{rows_seen}
use Rattle.reg_tables.proofs.Calls.{read_on, read_wrong, not_called}
use Rattle.reg_tables.proofs.work.Work.is_reserved.Goals as goal

pub returns-then-self : goal.returns-then-self
returns-then-self g c = record { told = λ clean. tt; same = λ clean. tt; leaves = not_called g.S.Store c.args.self.now c.requires _ c.if-self.true }

pub returns-in-Ok : goal.returns-in-Ok
returns-in-Ok g c = record { told = λ clean. subst (λ canon. TellsReserved canon (rows_seen g.S.Store c.args.self.now) c.in-Ok.told) c.as_str.ensures (c.in-Ok.ensures.found clean); same = λ clean. (c.in-Ok.ensures.same.only clean).0; leaves = read_on g.S.Store c.args.self.now c.requires _ _ _ c.if-self.false c.in-Ok.ensures.same }

pub returns-in-Err : goal.returns-in-Err
returns-in-Err g c = record { told = λ clean. tt; same = λ clean. tt; leaves = read_wrong g.S.Store c.args.self.now c.requires _ _ _ c.in-Err.ensures.same }
