use Rattle.reg_service_commands.proofs.Words.{Err, map, subst, rules, arith, sym, append-nil, take_all, rows_seen, asks_after, asks_failed}
use Rattle.reg_service_commands.proofs.Words.{asks_made, asks_nothing, AddsFiles, texts_of}
use Rattle.reg_service_commands.proofs.ExportAsked.{one_asked}
use Rattle.reg_service_commands.proofs.exporting.add_files.Goals as goal

pub loop-listed-init : goal.loop-listed-init
loop-listed-init g c =
    asks_nothing g.S.Store tt c.args.work.now c.requires.goes_on c.requires.at_work
    (λ lists ids s h. sym (append-nil (map texts_of c.args.first.items)))

pub returns-in_err-add_file : goal.returns-in_err-add_file
returns-in_err-add_file g c =
    asks_failed g.S.Store c.in_err-add_file.field-0.0 c.from_residual.result c.args.work.now c.add_file.new.work (search rules)
    (asks_after g.S.Store tt (Err c.in_err-add_file.field-0.0) c.args.work.now c.loop-listed.work c.add_file.new.work c.loop-listed.invariant c.in_err-add_file.ensures)

pub loop-listed-preserved : goal.loop-listed-preserved
loop-listed-preserved g c =
    one_asked g.S.Store c.args.crates.now c.loop-listed.listed-index c.listed-item.result (map texts_of c.args.first.items) (map texts_of c.loop-listed.files.items) (map texts_of c.add_file.new.files.items) tt c.in_ok-add_file.field-0 tt
    c.args.work.now c.loop-listed.work c.add_file.new.work (omega arith) c.listed-item.is c.loop-listed.invariant c.in_ok-add_file.ensures

pub returns : goal.returns
returns g c =
    asks_made g.S.Store tt c.loop-listed.files c.args.work.now c.loop-listed.work
    (subst (λ l. AddsFiles c.args.crates.now l (map texts_of c.args.first.items) (map texts_of c.loop-listed.files.items) (rows_seen g.S.Store c.args.work.now)) (take_all c.loop-listed.listed-index c.args.crates.now (omega arith))) c.loop-listed.invariant
