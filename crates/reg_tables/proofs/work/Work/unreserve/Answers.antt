use Rattle.std.proofs.Common.{subst}
use Rattle.reg_model.specs.Changes.{without_reserved}
use Rattle.reg_tables_represent.specs.Calls.{TellsReserved, Transforms}
use Rattle.reg_tables.specs.Works.{rows_seen}
use Rattle.reg_tables.proofs.Calls.{after, went_on, went_wrong, not_called}
use Rattle.reg_tables.proofs.work.Work.unreserve.Goals as goal

pub returns-then-self : goal.returns-then-self
returns-then-self g c = record { told = λ clean. tt; leaves = not_called g.S.Store c.args.self.now c.requires _ c.if-self.true }

pub returns-in-Ok : goal.returns-in-Ok
returns-in-Ok g c = record {
  told = λ clean. (
    subst (λ canon. Transforms (λ ids. without_reserved canon) (rows_seen g.S.Store c.args.self.now) (rows_seen g.S.Store (after c.args.self.now c.free.new.conn))) c.as_str.ensures (c.in-Ok.ensures.stands clean),
    subst (λ canon. TellsReserved canon (rows_seen g.S.Store c.args.self.now) c.in-Ok.told) c.as_str.ensures (c.in-Ok.ensures.tells clean),
  );
  leaves = went_on g.S.Store c.args.self.now c.requires _ _ _ c.if-self.false c.in-Ok.ensures.leaves;
}

pub returns-in-Err : goal.returns-in-Err
returns-in-Err g c = record { told = λ clean. tt; leaves = went_wrong g.S.Store c.args.self.now c.requires _ _ _ c.in-Err.ensures.leaves }
