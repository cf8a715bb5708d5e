use Rattle.reg_tables_sql.proofs.Words.{rules, to_z-of_z, state, writes_as}
use mir.Syntax.{w64}
use mir.Val.{SFits}
use Rattle.reg_tables_sql.proofs.AboutTexts.{second_is, numbers}
use Rattle.reg_tables_sql.proofs.about.number_second.Goals as goal

pub write-requires-clause-writes : goal.write-requires-clause-writes
write-requires-clause-writes g c = second_is.writing

pub returns : goal.returns
returns g c =
    let old = state g.S.Store c.args.conn.now in
    let new = state g.S.Store c.write.new.conn in
    let fits : SFits w64 c.args.id = search rules in
    writes_as old new c.write.result c.requires (λ at h. numbers old new c.args.id h.0 at h.1) (rw (c.params-to_sql.ensures, to_z-of_z w64 c.args.id fits) at c.write.ensures)
