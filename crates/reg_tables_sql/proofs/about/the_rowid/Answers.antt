use Rattle.reg_tables_sql.proofs.Words.{state, reads_as, may_read}
use Rattle.reg_tables_sql.proofs.AboutQueries.{rowid_is, the_rowid}
use Rattle.reg_tables_sql.proofs.about.the_rowid.Goals as goal

pub select_only-requires : goal.select_only-requires
select_only-requires g c = may_read _ rowid_is.plain _ c.requires

pub returns : goal.returns
returns g c =
    reads_as (state g.S.Store c.args.conn.now) (state g.S.Store c.select_only.new.conn) c.select_only.result c.requires (λ at id h. the_rowid (state g.S.Store c.args.conn.now) (state g.S.Store c.select_only.new.conn) id at h) c.select_only.ensures
