use Rattle.reg_tables_sql.proofs.Words.{rules, to_z-of_z, state}
use mir.Syntax.{w64}
use mir.Val.{SFits}
use Rattle.reg_tables_schema.proofs.Writing.{writes_after}
use Rattle.reg_tables_sql.proofs.AboutTexts.{becomes_second}
use Rattle.reg_tables_sql.proofs.about.set_second.Goals as goal

pub returns : goal.returns
returns g c =
    let old = state g.S.Store c.args.conn.now in
    let mid = state g.S.Store c.the_rowid.new.conn in
    let fits : SFits w64 c.in_ok-id.id = search rules in
    let new = state g.S.Store c.number_second.new.conn in
    writes_after old mid new c.the_rowid.result c.number_second.result c.in_ok-id.id c.in_ok-id.was (λ same is made. becomes_second old mid new c.in_ok-id.id same is made) c.the_rowid.ensures (rw (to_z-of_z w64 c.in_ok-id.id fits) at c.number_second.ensures)
