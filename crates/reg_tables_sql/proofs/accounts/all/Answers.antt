use Rattle.reg_tables_sql.proofs.Words.{state, reads_as, may_read}
use Rattle.reg_tables_sql.proofs.AccountQueries.{listed, listed_is}
use Rattle.reg_tables_sql.proofs.accounts.all.Goals as goal

pub select_list-requires : goal.select_list-requires
select_list-requires g c = may_read _ listed_is.plain _ c.requires

pub returns : goal.returns
returns g c = reads_as (state g.S.Store c.args.conn.now) (state g.S.Store c.select_list.new.conn) c.select_list.result c.requires (λ at list h. listed (state g.S.Store c.args.conn.now) (state g.S.Store c.select_list.new.conn) list.items at h) c.select_list.ensures
