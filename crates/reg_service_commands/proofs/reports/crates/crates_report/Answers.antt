use Rattle.reg_service_commands.proofs.CratesAsked.{crates_asked}
use Rattle.reg_service_commands.proofs.reports.crates.crates_report.Goals as goal

pub returns : goal.returns
returns g c =
    let all = c.in_ok-crates.ensures in
    crates_asked g.S.Store c.in_ok-crates.crates c.lines_of.result c.args.work.now c.all_crates.new.self c.lines_of.new.work
    (record { told = λ clean. (all.told clean).1; same = all.same; leaves = all.leaves }) (rw c.deref.ensures.value at c.lines_of.ensures)
