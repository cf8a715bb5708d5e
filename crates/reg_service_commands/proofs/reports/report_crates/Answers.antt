use Rattle.reg_service_commands.proofs.Words.{string_bytes, runs_asked}
use Rattle.reg_service_commands.proofs.Reporting.{crates_told}
use Rattle.reg_service_commands.proofs.reports.report_crates.Goals as goal

pub returns : goal.returns
returns g c =
    runs_asked g.S.Store c.in_ok-text.text _ c.args.work.now c.crates_report.new.work c.in_ok-text.ensures
    (λ told limits. crates_told limits (string_bytes c.in_ok-text.text) _ told)
