use Rattle.reg_tables_represent.proofs.Common.{state, subst, sym}
use Rattle.std.specs.Prelude.{IfOk, OnOk}
use Rattle.reg_tables_represent.specs.Calls.{Restricts, TellsOtherSight}
use Rattle.reg_tables_represent.proofs.restricted.set.Goals as goal

pub returns-then-restricted-clause-stands : goal.returns-then-restricted-clause-stands
returns-then-restricted-clause-stands g c clean =
    subst (λ b. OnOk c.restrict.result (Restricts b c.args.crate_id (state g.S.Store c.args.conn.now).now.trees (state g.S.Store c.restrict.new.conn).now.trees)) (sym c.if-restricted.true) (c.restrict.ensures.stands clean)

pub returns-else-restricted-clause-stands : goal.returns-else-restricted-clause-stands
returns-else-restricted-clause-stands g c clean =
    subst (λ b. OnOk c.lift.result (Restricts b c.args.crate_id (state g.S.Store c.args.conn.now).now.trees (state g.S.Store c.lift.new.conn).now.trees)) (sym c.if-restricted.false) (c.lift.ensures.stands clean)

pub returns-then-restricted-clause-tells : goal.returns-then-restricted-clause-tells
returns-then-restricted-clause-tells g c clean =
    subst (λ b. IfOk c.restrict.result (TellsOtherSight c.args.crate_id b (state g.S.Store c.args.conn.now).now.trees)) (sym c.if-restricted.true) (c.restrict.ensures.tells clean)

pub returns-else-restricted-clause-tells : goal.returns-else-restricted-clause-tells
returns-else-restricted-clause-tells g c clean =
    subst (λ b. IfOk c.lift.result (TellsOtherSight c.args.crate_id b (state g.S.Store c.args.conn.now).now.trees)) (sym c.if-restricted.false) (c.lift.ensures.tells clean)
