use Rattle.reg_tables_sql.proofs.Words.{state, writes_as}
use Rattle.reg_tables_sql.proofs.VersionTexts.{yanks, yank_is}
use Rattle.reg_tables_sql.proofs.versions.set_yanked.Goals as goal

pub write-requires-clause-writes : goal.write-requires-clause-writes
write-requires-clause-writes g c = yank_is.writing

pub returns : goal.returns
returns g c =
    writes_as (state g.S.Store c.args.conn.now) (state g.S.Store c.write.new.conn) c.write.result c.requires (λ at h. yanks (state g.S.Store c.args.conn.now) (state g.S.Store c.write.new.conn) c.args.crate_id c.args.release.now c.args.vers.now c.args.yanked h.0 at h.1) (rw (c.params-to_sql.ensures, c.params-to_sql-2.ensures, c.params-to_sql-3.ensures, c.params-to_sql-4.ensures) at c.write.ensures)
