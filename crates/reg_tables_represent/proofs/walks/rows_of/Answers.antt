use Rattle.std.proofs.Common.{refl}
use Rattle.sqlite.specs.Values.{bound}
use Rattle.reg_tables_represent.proofs.RowReading.{spared_early, if_refused, if_begun}
use Rattle.reg_tables_schema.proofs.Writing.{err_of}
use Rattle.reg_tables_represent.proofs.walks.rows_of.Goals as goal

pub returns-in_err-statement : goal.returns-in_err-statement
returns-in_err-statement g c =
    let is = err_of c.from_residual.result c.from_residual.ensures.0 in
    let spared = spared_early g.S.Store c.args.text.now c.args.conn.now c.prepare.new.self c.in_err-statement.field-0.0 c.in_err-statement.ensures.survives c.in_err-statement.ensures.err in
    rw is.1 ((refl, (λ w. tt), spared), (tt, (tt, (tt, ((λ k at. tt), tt)))))

pub returns : goal.returns
returns g c =
    let asked = c.in_ok-statement.statement.text in
    let made = c.in_ok-statement.ensures in
    let told = c.query_prepared.follows in
    let spared = if_refused g.S.Store c.args.text.now asked (bound c.args.params.now) c.args.conn.now c.prepare.new.self c.requires made.survives made.ok c.query_prepared.result told.lender-at-none told.holds-at-none in
    let begun = if_begun g.S.Store c.args.text.now asked (bound c.args.params.now) c.args.conn.now c.prepare.new.self c.requires made.survives made.ok c.query_prepared.result c.query_prepared.ensures.begun c.query_prepared.ensures.survives in
    ((refl, told.holds, spared), (c.query_prepared.ensures.same_reference, begun))
