use Rattle.reg_service_commands.proofs.Words.{string_bytes, asks_both, asks_made}
use Rattle.reg_service_commands.proofs.ReportTexts.{access_told}
use Rattle.reg_service_commands.proofs.reports.access.access_report.Goals as goal

pub returns-in-Ok : goal.returns-in-Ok
returns-in-Ok g c =
    let grants = c.in_ok-grants.grants in
    let readers = c.in_ok-readers.readers in
    asks_made g.S.Store (grants, readers) c.in-Ok.text c.args.work.now c.who_reads.new.work
    (λ h ids s holds. access_told s c.args.name.now grants.items readers.items (string_bytes c.in-Ok.text) (rw (c.deref.ensures.value, c.deref-2.ensures.value) at c.in-Ok.ensures) (h.0 ids s holds).0 (h.1 ids s holds))
    (asks_both g.S.Store grants readers c.args.work.now c.who_may.new.work c.who_reads.new.work c.in_ok-grants.ensures c.in_ok-readers.ensures)
