use Rattle.reg_tables_schema.proofs.Words.{arith, state, survives_weaker}
use Rattle.reg_tables_schema.proofs.OursLemmas.{ours_undone}
use Rattle.reg_tables_schema.proofs.WriteLemmas.{undoes, rollback_commits}
use Rattle.reg_tables_schema.proofs.transaction.undo.Goals as goal

pub returns-clause-undone : goal.returns-clause-undone
returns-clause-undone g c clean = undoes (state g.S.Store c.args.conn.now) (state g.S.Store c.execute.new.self) c.execute.result c.rest_law.ensures (c.execute.ensures.runs clean)

pub returns-clause-ours : goal.returns-clause-ours
returns-clause-ours g c e at = ours_undone e (state g.S.Store c.args.conn.now) (state g.S.Store c.execute.new.self) (λ clean. omega (arith, c.execute.ensures.survives.clean)) (returns-clause-undone g c) at

pub returns-clause-survives : goal.returns-clause-survives
returns-clause-survives g c = survives_weaker _ _ _ _ (λ _. rollback_commits (state g.S.Store c.args.conn.now)) c.execute.ensures.survives
