use Rattle.reg_tables_sql.proofs.Words.{state, reads_as, may_read}
use Rattle.reg_tables_sql.proofs.Relations.{numbered, rowids_plain}
use Rattle.reg_tables_sql.proofs.pairs.rowids.Goals as goal

pub select_list-requires : goal.select_list-requires
select_list-requires g c = rw c.texts.ensures.rowids (may_read _ (rowids_plain c.args.relation) _ c.requires)

pub returns : goal.returns
returns g c = reads_as (state g.S.Store c.args.conn.now) (state g.S.Store c.select_list.new.conn) c.select_list.result c.requires (λ at list h. numbered c.args.relation (state g.S.Store c.args.conn.now) (state g.S.Store c.select_list.new.conn) list.items at h) (rw c.texts.ensures.rowids at c.select_list.ensures)
