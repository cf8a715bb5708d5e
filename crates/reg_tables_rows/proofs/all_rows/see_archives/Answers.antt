use Rattle.reg_tables_schema.specs.Statements.{rows_in}
use Rattle.reg_tables_rows.proofs.all_rows.see_archives.Goals as goal

pub returns-clause-ids : goal.returns-clause-ids
returns-clause-ids g c clean = c.see_ids.ensures 13 (rows_in g.S.Store c.args.conn.now) (c.in_ok-first.ensures.told clean)
