use Rattle.reg_tables_sql.proofs.Words.{state, reads_as, may_read}
use Rattle.reg_tables_sql.proofs.VersionMarkQueries.{by_text, by_text_is}
use Rattle.reg_tables_sql.proofs.versions.mark_by_text.Goals as goal

pub select_one-requires : goal.select_one-requires
select_one-requires g c = may_read _ by_text_is.plain _ c.requires

pub returns : goal.returns
returns g c = reads_as (state g.S.Store c.args.conn.now) (state g.S.Store c.select_one.new.conn) c.select_one.result c.requires (λ at found h. by_text (state g.S.Store c.args.conn.now) (state g.S.Store c.select_one.new.conn) c.args.crate_id c.args.release.now c.args.vers.now found at h) (rw (c.params-to_sql.ensures, c.params-to_sql-2.ensures, c.params-to_sql-3.ensures) at c.select_one.ensures)
