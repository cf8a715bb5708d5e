use Rattle.std.proofs.Common.{subst}
use Rattle.std.proofs.lemmas.Result.{IfOk-weaker}
use Rattle.reg_cli_args.specs.Making.{HasRules}
use Rattle.reg_cli_args.proofs.Making.{program_is}
use Rattle.reg_cli_args.proofs.usage.command.Goals as goal

pub returns : goal.returns
returns c = IfOk-weaker c.with_reports.result _ _
    (λ new h. subst (λ a. HasRules a new) program_is (h _ (c.in_ok-with_orders.ensures _ (c.in_ok-command.ensures _ (c.in_ok-with_services.ensures _ c.program.ensures)))))
    c.with_reports.ensures
