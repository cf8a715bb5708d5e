use Rattle.reg_tables_sql.proofs.Words.{Ok, w64, to_z_pos, state, writes_as}
use Rattle.reg_tables_sql.proofs.ArchiveTexts.{inserts_archive, insert_writes}
use Rattle.reg_tables_sql.proofs.archives.insert.Goals as goal

pub write-requires-clause-writes : goal.write-requires-clause-writes
write-requires-clause-writes g c = insert_writes

pub returns : goal.returns
returns g c =
    writes_as (state g.S.Store c.args.conn.now) (state g.S.Store c.write.new.conn) c.write.result c.requires.ready (λ at h. inserts_archive (state g.S.Store c.args.conn.now) (state g.S.Store c.write.new.conn) c.args.version c.args.bytes.now (Ok h.0) at h.1) (rw (c.params-to_sql.ensures, c.params-to_sql-2.ensures, to_z_pos w64 c.requires.small) at c.write.ensures)
