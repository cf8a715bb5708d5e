use Rattle.reg_tables_schema.proofs.Words.{arith, state}
use Rattle.reg_tables_schema.proofs.MakeLemmas.{inserts_about, about_survives}
use Rattle.reg_tables_schema.proofs.WriteLemmas.{refused}
use Rattle.reg_tables_schema.proofs.make.insert_about.Goals as goal

pub returns-clause-added : goal.returns-clause-added
returns-clause-added g c clean =
    inserts_about (state g.S.Store c.args.conn.now) (state g.S.Store c.execute.new.self) c.args.base.now c.execute.result (c.requires (omega (arith, c.execute.ensures.survives.clean)))
    (rw c.params-to_sql.ensures at (c.execute.ensures.runs clean))

pub returns-clause-refused : goal.returns-clause-refused
returns-clause-refused g c clean = refused _ _ (state g.S.Store c.args.conn.now) (state g.S.Store c.execute.new.self) c.execute.result (c.execute.ensures.runs clean)

pub returns-clause-survives : goal.returns-clause-survives
returns-clause-survives g c = about_survives (state g.S.Store c.args.conn.now) (state g.S.Store c.execute.new.self) _ c.requires c.execute.ensures.survives
