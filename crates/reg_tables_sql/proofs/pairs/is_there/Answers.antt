use Rattle.reg_tables_sql.proofs.Words.{state, reads_as, may_read}
use Rattle.reg_tables_sql.proofs.Relations.{pair_plain, paired}
use Rattle.reg_tables_sql.proofs.pairs.is_there.Goals as goal

pub has_row-requires : goal.has_row-requires
has_row-requires g c = rw c.texts.ensures.pair (may_read _ (pair_plain c.args.relation) _ c.requires)

pub returns : goal.returns
returns g c = reads_as (state g.S.Store c.args.conn.now) (state g.S.Store c.has_row.new.conn) c.has_row.result c.requires (λ at there h. paired c.args.relation (state g.S.Store c.args.conn.now) (state g.S.Store c.has_row.new.conn) at c.args.pair.crate_id c.args.pair.account h.0 there h.1 h.2) (rw (c.texts.ensures.pair, c.params-to_sql.ensures, c.params-to_sql-2.ensures) at c.has_row.ensures)
