use Rattle.reg_tables_sql.proofs.Words.{w64, to_z_pos, state, reads_as, may_read}
use Rattle.reg_tables_sql.proofs.ArchiveQueries.{by_id, by_id_is}
use Rattle.reg_tables_sql.proofs.archives.by_id.Goals as goal

pub select_one-requires : goal.select_one-requires
select_one-requires g c = may_read _ by_id_is.plain _ c.requires.ready

pub returns : goal.returns
returns g c = reads_as (state g.S.Store c.args.conn.now) (state g.S.Store c.select_one.new.conn) c.select_one.result c.requires.ready (λ at found h. by_id (state g.S.Store c.args.conn.now) (state g.S.Store c.select_one.new.conn) c.args.version found at h) (rw (c.params-to_sql.ensures, to_z_pos w64 c.requires.small) at c.select_one.ensures)
