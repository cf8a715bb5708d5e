use Rattle.reg_tables_sql.proofs.Words.{state, reads_as, may_read}
use Rattle.reg_tables_sql.proofs.ArchiveQueries.{first_id, first_is}
use Rattle.reg_tables_sql.proofs.archives.first_id.Goals as goal

pub select_one-requires : goal.select_one-requires
select_one-requires g c = may_read _ first_is.plain _ c.requires

pub returns : goal.returns
returns g c = reads_as (state g.S.Store c.args.conn.now) (state g.S.Store c.select_one.new.conn) c.select_one.result c.requires (λ at found h. first_id (state g.S.Store c.args.conn.now) (state g.S.Store c.select_one.new.conn) found at h) c.select_one.ensures
