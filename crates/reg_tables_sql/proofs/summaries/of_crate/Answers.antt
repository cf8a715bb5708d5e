use Rattle.reg_tables_sql.proofs.Words.{state, reads_as, may_read}
use Rattle.reg_tables_sql.proofs.SummaryQueries.{of_crate, of_crate_is}
use Rattle.reg_tables_sql.proofs.summaries.of_crate.Goals as goal

pub select_one-requires : goal.select_one-requires
select_one-requires g c = may_read _ of_crate_is.plain _ c.requires

pub returns : goal.returns
returns g c = reads_as (state g.S.Store c.args.conn.now) (state g.S.Store c.select_one.new.conn) c.select_one.result c.requires (λ at found h. of_crate (state g.S.Store c.args.conn.now) (state g.S.Store c.select_one.new.conn) c.args.crate_id found at h) (rw c.params-to_sql.ensures at c.select_one.ensures)
