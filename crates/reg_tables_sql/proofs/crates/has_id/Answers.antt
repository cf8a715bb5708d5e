use Rattle.reg_tables_sql.proofs.Words.{state, reads_as, may_read}
use Rattle.reg_tables_sql.proofs.CrateQueries.{by_id, by_id_is}
use Rattle.reg_tables_sql.proofs.crates.has_id.Goals as goal

pub has_row-requires : goal.has_row-requires
has_row-requires g c = may_read _ by_id_is.plain _ c.requires

pub returns : goal.returns
returns g c = reads_as (state g.S.Store c.args.conn.now) (state g.S.Store c.has_row.new.conn) c.has_row.result c.requires (λ at there h. by_id (state g.S.Store c.args.conn.now) (state g.S.Store c.has_row.new.conn) c.args.id h.0 there at h.1 h.2) (rw c.params-to_sql.ensures at c.has_row.ensures)
