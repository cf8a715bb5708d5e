use Rattle.std.proofs.Common.{◌∙◌, map, sym}
use Rattle.std.proofs.lemmas.Result.{err_from_is_err_and}
use Rattle.reg_model.proofs.Lists.{list_any_map}
use Rattle.reg_cli_args.specs.Dashes.{is_dashed}
use Rattle.reg_cli_run.specs.declared.ordering.OrderFault.TheVariants.{Unreadable}
use Rattle.reg_cli_run.proofs.Orders.{ordered_as, unread}
use Rattle.reg_cli_run.proofs.Words.{message_dashed, message_read, message_unread}
use Rattle.reg_cli_run.proofs.message.obey_words.Goals as goal

pub returns-then-have_dashed : goal.returns-then-have_dashed
returns-then-have_dashed g c = unread Unreadable (message_dashed (map (λ w. w.now) c.args.words.now) (list_any_map is_dashed (λ w. w.now) c.args.words.now ∙ sym c.have_dashed.ensures ∙ c.if-have_dashed.true))

pub returns-in_err-matches : goal.returns-in_err-matches
returns-in_err-matches g c =
    let p = err_from_is_err_and c.from_residual.result c.from_residual.ensures.1 in
    rw (p.1, p.2) (unread _ (message_unread (map (λ w. w.now) c.args.words.now) c.in_err-matches.field-0.0 c.in_err-matches.ensures.fails))

pub returns : goal.returns
returns g c =
    ordered_as (sym (message_read (map (λ w. w.now) c.args.words.now) c.in_ok-matches.matches (list_any_map is_dashed (λ w. w.now) c.args.words.now ∙ sym c.have_dashed.ensures ∙ c.if-have_dashed.false) c.in_ok-matches.ensures.fails c.in_ok-matches.ensures.reads)) c.obey_asked.ensures
