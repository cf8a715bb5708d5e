use Rattle.reg_tables_sql.proofs.Words.{state, reads_as, may_read}
use Rattle.reg_tables_sql.proofs.AccountQueries.{last, last_is}
use Rattle.reg_tables_sql.proofs.accounts.last_id.Goals as goal

pub select_one-requires : goal.select_one-requires
select_one-requires g c = may_read _ last_is.plain _ c.requires

pub returns : goal.returns
returns g c = reads_as (state g.S.Store c.args.conn.now) (state g.S.Store c.select_one.new.conn) c.select_one.result c.requires (λ at found h. last (state g.S.Store c.args.conn.now) (state g.S.Store c.select_one.new.conn) found at h) c.select_one.ensures
