use Rattle.reg_service_commands.proofs.Words.{sym, ◌∙◌, string_bytes, runs_asked, runs_nothing}
use Rattle.reg_service_commands.proofs.Reporting.{access_told, no_report}
use Rattle.reg_service_commands.proofs.reports.report_access.Goals as goal

pub returns-in_default : goal.returns-in_default
returns-in_default g c =
    runs_nothing g.S.Store _ c.args.work.now c.requires.goes_on c.requires.at_work
    (λ limits. no_report limits c.args.name.now _ (sym c.parse_name.ensures ∙ c.in_default.is))

pub returns : goal.returns
returns g c =
    runs_asked g.S.Store c.in_ok-text.text _ c.args.work.now c.access_report.new.work c.in_ok-text.ensures
    (λ told limits. access_told limits c.args.name.now c.in-Some.parsed (string_bytes c.in_ok-text.text) _ (sym c.parse_name.ensures ∙ c.in-Some.is) told)
