use Rattle.std.proofs.Common.{[], arith, refl, subst}
use Rattle.sqlite.specs.Held.{state}
use Rattle.sqlite.specs.State.{Executes}
use Rattle.sqlite.proofs.StateLemmas.{survives_weaker}
use Rattle.reg_tables_schema.proofs.OursLemmas.{ours_undone}
use Rattle.reg_tables_schema.proofs.WriteLemmas.{undoes, rollback_commits}
use Rattle.reg_tables_schema.specs.declared.transaction.TheConstants.{ROLLBACK}
use Rattle.reg_tables.proofs.StillOpen.{still_open}
use Rattle.reg_tables.proofs.answering.is_answering.Goals as goal

pub returns-clause-open : goal.returns-clause-open
returns-clause-open g c clean is =
    let old = state g.S.Store c.args.conn.now in
    let new = state g.S.Store c.execute-said.new.self in
    still_open ROLLBACK.now [] old new _ refl (subst (λ r. Executes ROLLBACK.now [] old new r) (c.lacks_transaction.ensures is) (c.execute-said.ensures.runs clean))

pub returns-clause-undone : goal.returns-clause-undone
returns-clause-undone g c clean = undoes (state g.S.Store c.args.conn.now) (state g.S.Store c.execute-said.new.self) c.execute-said.result c.rest_law.ensures (c.execute-said.ensures.runs clean)

pub returns-clause-ours : goal.returns-clause-ours
returns-clause-ours g c e at = ours_undone e (state g.S.Store c.args.conn.now) (state g.S.Store c.execute-said.new.self) (λ clean. omega (arith, c.execute-said.ensures.survives.clean)) (returns-clause-undone g c) at

pub returns-clause-survives : goal.returns-clause-survives
returns-clause-survives g c = survives_weaker _ _ _ _ (λ _. rollback_commits (state g.S.Store c.args.conn.now)) c.execute-said.ensures.survives
