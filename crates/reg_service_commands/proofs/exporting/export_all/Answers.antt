use Rattle.reg_service_commands.proofs.ExportAsked.{export_asked}
use Rattle.reg_service_commands.proofs.exporting.export_all.Goals as goal

pub returns : goal.returns
returns g c =
    let all = c.in_ok-crates.ensures in
    export_asked g.S.Store c.in_ok-first.first c.in_ok-crates.crates c.add_files.result c.args.work.now c.first_file.new.work c.all_crates.new.self c.add_files.new.work
    c.in_ok-first.ensures (record { told = λ clean. (all.told clean).1; same = all.same; leaves = all.leaves }) (rw c.deref.ensures.value at c.add_files.ensures)
