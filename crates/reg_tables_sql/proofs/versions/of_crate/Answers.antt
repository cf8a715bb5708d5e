use Rattle.reg_tables_sql.proofs.Words.{state, reads_as, may_read}
use Rattle.reg_tables_sql.proofs.VersionQueries.{of_crate, of_crate_is}
use Rattle.reg_tables_sql.proofs.versions.of_crate.Goals as goal

pub select_list-requires : goal.select_list-requires
select_list-requires g c = may_read _ of_crate_is.plain _ c.requires

pub returns : goal.returns
returns g c = reads_as (state g.S.Store c.args.conn.now) (state g.S.Store c.select_list.new.conn) c.select_list.result c.requires (λ at list h. of_crate (state g.S.Store c.args.conn.now) (state g.S.Store c.select_list.new.conn) c.args.crate_id list.items at h) (rw c.params-to_sql.ensures at c.select_list.ensures)
