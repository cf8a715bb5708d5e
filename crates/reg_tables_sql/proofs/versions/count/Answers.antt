use Rattle.reg_tables_sql.proofs.Words.{state, reads_as, may_read}
use Rattle.reg_tables_sql.proofs.VersionQueries.{all_is, count_all}
use Rattle.reg_tables_sql.proofs.versions.count.Goals as goal

pub select_only-requires : goal.select_only-requires
select_only-requires g c = may_read _ all_is.plain _ c.requires

pub returns : goal.returns
returns g c = reads_as (state g.S.Store c.args.conn.now) (state g.S.Store c.select_only.new.conn) c.select_only.result c.requires (λ at n h. count_all (state g.S.Store c.args.conn.now) (state g.S.Store c.select_only.new.conn) n at h) c.select_only.ensures
