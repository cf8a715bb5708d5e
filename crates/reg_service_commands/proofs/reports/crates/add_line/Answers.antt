use Rattle.reg_service_commands.proofs.Words.{Ok, string_bytes, ListsVersions, rows_seen, StoreFault, Queries, asks_made}
use Rattle.reg_service_commands.proofs.CratesAsked.{line_added}
use Rattle.reg_service_commands.proofs.reports.crates.add_line.Goals as goal

pub returns-in-Ok : goal.returns-in-Ok
returns-in-Ok g c =
    let list = c.in_ok-versions.versions in
    let told = c.in_ok-versions.ensures in
    let asked : Queries {E = StoreFault} g.S.Store c.args.work.now c.versions_of.new.self (Ok list) (λ db list. ListsVersions c.args.listed.now.id db list.items) = record { told = λ clean. (told.told clean).1; same = told.same; leaves = told.leaves } in
    asks_made g.S.Store list tt c.args.work.now c.versions_of.new.self
    (λ lists. line_added (rows_seen g.S.Store c.args.work.now) c.args.listed.now list.items (string_bytes c.args.report.now) (string_bytes c.push_versions.new.report) lists (rw (c.as_str.ensures.value, c.deref.ensures.value) at c.in-Ok.ensures)) asked
