use Rattle.std.proofs.Common.{◌∙◌, Some, None, ap, sym}
use Rattle.std.proofs.lemmas.Result.{err_from_is_err_and}
use Rattle.reg_cli_args.specs.Orders.{source_of, words_of}
use Rattle.reg_cli_run.specs.LineOrders.{adding}
use Rattle.reg_cli_run.specs.declared.ordering.OrderFault.TheVariants.{Memory, Unreadable}
use Rattle.reg_cli_run.proofs.Orders.{ordered_as, unread}
use Rattle.reg_cli_run.proofs.Words.{orders_none, orders_read}
use Rattle.reg_cli_run.proofs.ordering.obey_order.Goals as goal

pub returns-in_default : goal.returns-in_default
returns-in_default g c = unread Unreadable (orders_none c.args.matches.now c.in_default.ensures.rows)

pub returns-in_err-token : goal.returns-in_err-token
returns-in_err-token g c =
    let p = err_from_is_err_and c.from_residual.result c.from_residual.ensures.1 in
    rw (p.1, p.2) (unread Memory tt)

pub returns-in-Told : goal.returns-in-Told
returns-in-Told g c =
    let token = c.in-Some-AddToken.token in
    let read = orders_read c.args.matches.now c.in-Some.inner.now c.in-Some.name.now c.in-Some.ensures.name c.in-Some.ensures.rows c.in_ok-token.field-0 _ c.in_ok-token.ensures.orders (c.in-Some-AddToken.is ∙ ap Some c.in-Some-AddToken.field-0-is) in
    ordered_as (read ∙ ap (λ s. adding (words_of token) (source_of s)) c.in-Told.is ∙ ap Some (sym c.command.ensures.adds)) c.obey_traced.ensures

pub returns-in-Some-AddToken : goal.returns-in-Some-AddToken
returns-in-Some-AddToken g c =
    let token = c.in-Some-AddToken.token in
    let read = orders_read c.args.matches.now c.in-Some.inner.now c.in-Some.name.now c.in-Some.ensures.name c.in-Some.ensures.rows c.in_ok-token.field-0 _ c.in_ok-token.ensures.orders (c.in-Some-AddToken.is ∙ ap Some c.in-Some-AddToken.field-0-is) in
    unread Unreadable (read ∙ ap (λ s. adding (words_of token) (source_of s)) c.in-Random.is)

pub returns-in-Some-Other : goal.returns-in-Some-Other
returns-in-Some-Other g c =
    ordered_as (orders_read c.args.matches.now c.in-Some.inner.now c.in-Some.name.now c.in-Some.ensures.name c.in-Some.ensures.rows c.in_ok-token.field-0 _ c.in_ok-token.ensures.orders (c.in-Some-Other.is ∙ ap Some c.in-Some-Other.field-0-is)) c.obey_traced-in-Some-Other.ensures

pub returns : goal.returns
returns g c = unread Unreadable (orders_read c.args.matches.now c.in-Some.inner.now c.in-Some.name.now c.in-Some.ensures.name c.in-Some.ensures.rows c.in_ok-token.field-0 None c.in_ok-token.ensures.orders c.in-None.is)
