use Rattle.reg_tables_schema.proofs.Words.{arith, state, survives_weaker}
use Rattle.reg_tables_schema.proofs.OursLemmas.{ours_finished, ours_unfinished, then_ok}
use Rattle.reg_tables_schema.proofs.WriteLemmas.{finishes, commit_commits, ends_undone}
use Rattle.reg_tables_schema.proofs.transaction.finish.Goals as goal

pub returns-clause-kept : goal.returns-clause-kept
returns-clause-kept g c clean = finishes (state g.S.Store c.args.conn.now) (state g.S.Store c.execute-done.new.self) c.execute-done.result (c.execute-done.ensures.runs clean)

pub returns-clause-undone : goal.returns-clause-undone
returns-clause-undone g c clean = ends_undone (state g.S.Store c.args.conn.now) (state g.S.Store c.execute-done.new.self) c.execute-done.result c.rest_law.ensures (c.execute-done.ensures.runs clean)

pub returns-clause-ours : goal.returns-clause-ours
returns-clause-ours g c e at = ours_finished e (state g.S.Store c.args.conn.now) (state g.S.Store c.execute-done.new.self) (λ clean. omega (arith, c.execute-done.ensures.survives.clean)) c.execute-done.result (returns-clause-kept g c) at

pub returns-clause-ours_again : goal.returns-clause-ours_again
returns-clause-ours_again g c e at = ours_unfinished e (state g.S.Store c.args.conn.now) (state g.S.Store c.execute-done.new.self) (λ clean. omega (arith, c.execute-done.ensures.survives.clean)) c.execute-done.result (returns-clause-undone g c) at

pub returns-clause-alone : goal.returns-clause-alone
returns-clause-alone g c clean = then_ok c.execute-done.result (λ k db left. g.met.S.Store.settled c.execute-done.new.self.store db k.is_open left) (returns-clause-kept g c clean)

pub returns-clause-survives : goal.returns-clause-survives
returns-clause-survives g c = survives_weaker _ _ _ _ (λ _. commit_commits (state g.S.Store c.args.conn.now)) c.execute-done.ensures.survives
