use Rattle.reg_service_commands.proofs.Words.{Err, subst, rules, arith, string_bytes, take_all, rows_seen, asks_after, asks_failed}
use Rattle.reg_service_commands.proofs.Words.{asks_made, HasLines}
use Rattle.reg_service_commands.proofs.CratesAsked.{one_asked}
use Rattle.reg_service_commands.proofs.reports.crates.lines_of.Goals as goal

pub returns-in_err-add_line : goal.returns-in_err-add_line
returns-in_err-add_line g c =
    asks_failed g.S.Store c.in_err-add_line.field-0.0 c.from_residual.result c.args.work.now c.add_line.new.work (search rules)
    (asks_after g.S.Store tt (Err c.in_err-add_line.field-0.0) c.args.work.now c.loop-listed.work c.add_line.new.work c.loop-listed.invariant c.in_err-add_line.ensures)

pub loop-listed-preserved : goal.loop-listed-preserved
loop-listed-preserved g c =
    one_asked g.S.Store c.args.crates.now c.loop-listed.listed-index c.listed-item.result (string_bytes c.loop-listed.report) (string_bytes c.add_line.new.report) tt c.in_ok-add_line.field-0 tt c.args.work.now c.loop-listed.work c.add_line.new.work
    (omega arith) c.listed-item.is c.loop-listed.invariant c.in_ok-add_line.ensures

pub returns : goal.returns
returns g c =
    asks_made g.S.Store tt c.loop-listed.report c.args.work.now c.loop-listed.work
    (subst (λ l. HasLines c.args.crates.now l (string_bytes c.loop-listed.report) (rows_seen g.S.Store c.args.work.now)) (take_all c.loop-listed.listed-index c.args.crates.now (omega arith))) c.loop-listed.invariant
