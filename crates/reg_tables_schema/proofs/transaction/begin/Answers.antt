use Rattle.reg_tables_schema.proofs.Words.{arith, state, survives_weaker}
use Rattle.reg_tables_schema.proofs.OursLemmas.{back_begun, ours_unbegun, ready_begun}
use Rattle.reg_tables_schema.proofs.WriteLemmas.{begins, begin_commits, refused}
use Rattle.reg_tables_schema.proofs.transaction.begin.Goals as goal

pub returns-clause-begun : goal.returns-clause-begun
returns-clause-begun g c clean = begins (state g.S.Store c.args.conn.now) (state g.S.Store c.execute.new.self) c.execute.result (c.execute.ensures.runs clean)

pub returns-clause-ready : goal.returns-clause-ready
returns-clause-ready g c e at = ready_begun e (state g.S.Store c.args.conn.now) (state g.S.Store c.execute.new.self) (λ clean. omega (arith, c.execute.ensures.survives.clean)) c.execute.result (returns-clause-begun g c) at

pub returns-clause-back : goal.returns-clause-back
returns-clause-back g c e at = back_begun e (state g.S.Store c.args.conn.now) (state g.S.Store c.execute.new.self) (λ clean. omega (arith, c.execute.ensures.survives.clean)) c.execute.result (returns-clause-begun g c) at

pub returns-clause-refused : goal.returns-clause-refused
returns-clause-refused g c clean = refused _ _ (state g.S.Store c.args.conn.now) (state g.S.Store c.execute.new.self) c.execute.result (c.execute.ensures.runs clean)

pub returns-clause-ours : goal.returns-clause-ours
returns-clause-ours g c e at =
    ours_unbegun e (state g.S.Store c.args.conn.now) (state g.S.Store c.execute.new.self) (λ clean. omega (arith, c.execute.ensures.survives.clean)) c.execute.result (returns-clause-refused g c) at

pub returns-clause-survives : goal.returns-clause-survives
returns-clause-survives g c = survives_weaker _ _ _ _ (λ _. begin_commits (state g.S.Store c.args.conn.now)) c.execute.ensures.survives
