use Rattle.reg_tables_sql.proofs.Words.{map, state, reads_as, may_read}
use Rattle.reg_tables_sql.specs.Stems.{columns_of_stem}
use Rattle.reg_tables_sql.proofs.StemQueries.{stems, stems_are}
use Rattle.reg_tables_sql.proofs.versions.entries.Goals as goal

pub select_list-requires : goal.select_list-requires
select_list-requires g c = may_read _ stems_are.plain _ c.requires

pub returns : goal.returns
returns g c = reads_as (state g.S.Store c.args.conn.now) (state g.S.Store c.select_list.new.conn) c.select_list.result c.requires (λ at list h. stems (state g.S.Store c.args.conn.now) c.args.crate_id at.schema_is (state g.S.Store c.select_list.new.conn) (map columns_of_stem list.items) h) (rw c.params-to_sql.ensures at c.select_list.ensures)
