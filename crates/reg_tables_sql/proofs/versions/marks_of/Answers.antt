use Rattle.reg_tables_sql.proofs.Words.{state, reads_as, may_read}
use Rattle.reg_tables_sql.proofs.VersionMarkQueries.{marks, marks_are}
use Rattle.reg_tables_sql.proofs.versions.marks_of.Goals as goal

pub select_here-requires : goal.select_here-requires
select_here-requires g c = may_read _ marks_are.plain _ c.requires

pub returns : goal.returns
returns g c = reads_as (state g.S.Store c.args.conn.now) (state g.S.Store c.select_here.new.conn) c.select_here.result c.requires (λ at list h. marks (state g.S.Store c.args.conn.now) (state g.S.Store c.select_here.new.conn) c.args.crate_id list.items at h) (rw c.params-to_sql.ensures at c.select_here.ensures)
