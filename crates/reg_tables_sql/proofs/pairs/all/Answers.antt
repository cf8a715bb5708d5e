use Rattle.reg_tables_sql.proofs.Words.{state, reads_as, may_read}
use Rattle.reg_tables_sql.proofs.Relations.{all_plain, listed}
use Rattle.reg_tables_sql.proofs.pairs.all.Goals as goal

pub select_list-requires : goal.select_list-requires
select_list-requires g c = rw c.texts.ensures.all (may_read _ (all_plain c.args.relation) _ c.requires)

pub returns : goal.returns
returns g c = reads_as (state g.S.Store c.args.conn.now) (state g.S.Store c.select_list.new.conn) c.select_list.result c.requires (λ at list h. listed c.args.relation (state g.S.Store c.args.conn.now) (state g.S.Store c.select_list.new.conn) at list.items h) (rw c.texts.ensures.all at c.select_list.ensures)
