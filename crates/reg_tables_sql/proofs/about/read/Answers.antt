use Rattle.reg_tables_sql.proofs.Words.{state, may_read}
use Rattle.reg_tables_schema.proofs.Reading.{reads_then}
use Rattle.reg_tables_sql.proofs.AboutQueries.{about, about_is}
use Rattle.reg_tables_sql.proofs.about.read.Goals as goal

pub rows_of-requires : goal.rows_of-requires
rows_of-requires g c = may_read _ (about_is c.requires.0).plain _ c.requires.1

pub returns : goal.returns
returns g c =
    let old = state g.S.Store c.args.conn.now in
    let new = state g.S.Store c.rows_of.new.conn in
    reads_then old new c.rows_of.result c.about_of.result c.in_ok-rows.rows c.in_ok-rows.was c.requires.1 (λ at h a is. about c.requires.0 old new c.in_ok-rows.rows.items a at h is) (rw c.deref.ensures.value at c.about_of.ensures) c.rows_of.ensures
