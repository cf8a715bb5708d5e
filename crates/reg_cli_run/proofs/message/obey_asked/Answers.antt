use Rattle.std.proofs.Common.{◌∙◌, ap, sym}
use Rattle.reg_cli_run.specs.LineOrders.{order_in}
use Rattle.reg_cli_run.specs.Messages.{report_else}
use Rattle.reg_cli_run.proofs.Orders.{ordered_as}
use Rattle.reg_cli_run.proofs.Words.{asked_by, asked_none, orders_none}
use Rattle.reg_cli_run.proofs.message.obey_asked.Goals as goal
use Rattle.reg_cli_run.proofs.message.obey_asked.Goals.{in-Some+in_default-read_report, in_default}

pub returns-in-Some-read_report : goal.returns-in-Some-read_report
returns-in-Some-read_report g c =
    ordered_as (asked_by c.args.matches.now c.in-Some.inner.now c.in-Some.name.now c.in-Some.ensures.name c.in-Some.ensures.rows ∙ ap (λ r. report_else r (order_in c.args.matches.now)) (sym c.in-Some-read_report.ensures.orders)) c.obey_traced.ensures

pub returns : goal.returns
returns g c = ordered_as (elim c.match-subcommand.branch [
  | in-Some+in_default-read_report w ↦ asked_by c.args.matches.now w.in-Some.inner.now w.in-Some.name.now w.in-Some.ensures.name w.in-Some.ensures.rows ∙ ap (λ r. report_else r (order_in c.args.matches.now)) (sym w.in_default-read_report.ensures.orders)
  | in_default w ↦ asked_none c.args.matches.now w.in_default.ensures.rows ∙ sym (orders_none c.args.matches.now w.in_default.ensures.rows)
]) c.obey_order.ensures
