use Rattle.reg_tables_sql.proofs.Words.{Ok, state, writes_as}
use Rattle.reg_tables_sql.proofs.CrateTexts.{inserts, insert_writes}
use Rattle.reg_tables_sql.proofs.crates.insert.Goals as goal

pub write-requires-clause-writes : goal.write-requires-clause-writes
write-requires-clause-writes g c = insert_writes

pub returns : goal.returns
returns g c =
    writes_as (state g.S.Store c.args.conn.now) (state g.S.Store c.write.new.conn) c.write.result c.requires (λ at h. inserts (state g.S.Store c.args.conn.now) (state g.S.Store c.write.new.conn) c.args.id c.args.canon.now c.args.name.now (Ok h.0) at h.1) (rw (c.params-to_sql.ensures, c.params-to_sql-2.ensures, c.params-to_sql-3.ensures) at c.write.ensures)
