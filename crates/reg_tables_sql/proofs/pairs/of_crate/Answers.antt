use Rattle.reg_tables_sql.proofs.Words.{state, reads_as, may_read}
use Rattle.reg_tables_sql.proofs.Relations.{accounts_plain, of_crate}
use Rattle.reg_tables_sql.proofs.pairs.of_crate.Goals as goal

pub select_list-requires : goal.select_list-requires
select_list-requires g c = rw c.texts.ensures.accounts (may_read _ (accounts_plain c.args.relation) _ c.requires)

pub returns : goal.returns
returns g c = reads_as (state g.S.Store c.args.conn.now) (state g.S.Store c.select_list.new.conn) c.select_list.result c.requires (λ at list h. of_crate c.args.relation (state g.S.Store c.args.conn.now) (state g.S.Store c.select_list.new.conn) at c.args.crate_id list.items h) (rw (c.texts.ensures.accounts, c.params-to_sql.ensures) at c.select_list.ensures)
