use Rattle.reg_tables_sql.proofs.Words.{state, reads_as, may_read}
use Rattle.reg_tables_sql.proofs.ScopeQueries.{of_token, of_token_is}
use Rattle.reg_tables_sql.proofs.scopes.of_token.Goals as goal

pub select_list-requires : goal.select_list-requires
select_list-requires g c = may_read _ of_token_is.plain _ c.requires

pub returns : goal.returns
returns g c = reads_as (state g.S.Store c.args.conn.now) (state g.S.Store c.select_list.new.conn) c.select_list.result c.requires (λ at list h. of_token (state g.S.Store c.args.conn.now) (state g.S.Store c.select_list.new.conn) c.args.token list.items at h) (rw c.params-to_sql.ensures at c.select_list.ensures)
