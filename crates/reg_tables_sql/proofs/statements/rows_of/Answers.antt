use Rattle.reg_tables_sql.proofs.Words.{arith, state, bound, reading_survives}
use Rattle.reg_tables_schema.proofs.Selections.{only_reads}
use Rattle.reg_tables_sql.proofs.statements.rows_of.Goals as goal

pub returns : goal.returns
returns g c = record {
  told = c.query_all.ensures.ok;
  only = λ clean. only_reads c.args.text.now (bound c.args.params.now) (state g.S.Store c.args.conn.now) (state g.S.Store c.query_all.new.self) c.query_all.result
      (c.requires (omega (arith, c.query_all.ensures.survives.clean))) (c.query_all.ensures.ok clean) (c.query_all.ensures.err clean);
  survives = reading_survives c.args.text.now (bound c.args.params.now) (state g.S.Store c.args.conn.now) (state g.S.Store c.query_all.new.self) c.requires c.query_all.ensures.survives;
}
