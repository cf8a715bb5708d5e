use Rattle.reg_tables_sql.proofs.Words.{w64, to_z_pos, Ok, state, writes_as}
use Rattle.reg_tables_sql.proofs.SummaryTexts.{inserts, insert_writes}
use Rattle.reg_tables_sql.proofs.summaries.insert.Goals as goal

pub write-requires-clause-writes : goal.write-requires-clause-writes
write-requires-clause-writes g c = insert_writes

pub returns : goal.returns
returns g c =
    writes_as (state g.S.Store c.args.conn.now) (state g.S.Store c.write.new.conn) c.write.result c.requires (λ at h. inserts (state g.S.Store c.args.conn.now) (state g.S.Store c.write.new.conn) c.args.summary.crate_id c.args.summary.highest c.args.summary.index_length (Ok h.0) at h.1) (rw (c.params-to_sql.ensures, c.params-to_sql-2.ensures, c.params-to_sql-3.ensures, to_z_pos w64 c.in_ok-check_numbers.ensures.version, to_z_pos w64 c.in_ok-check_numbers.ensures.length) at c.write.ensures)
