use Rattle.std.proofs.Common.{◌≡◌, ◌∙◌, Bor, List, ℕ, ap, map, sym}
use Rattle.std.proofs.lemmas.Result.{err_from_is_err_and}
use Rattle.reg_cli_run.specs.LineOrders.{words_in}
use Rattle.reg_cli_run.proofs.Orders.{ordered_as, unread}
use Rattle.reg_cli_run.proofs.Words.{line_read, line_unread}
use Rattle.reg_cli_run.proofs.setup.obey_line.Goals as goal

pub returns-in_err-words : goal.returns-in_err-words
returns-in_err-words g c =
    let p = err_from_is_err_and c.from_residual.result c.from_residual.ensures.1 in
    rw (p.1, p.2) (unread c.in_err-words.field-0.0 c.in_err-words.ensures.fails)

pub returns-in_err-matches : goal.returns-in_err-matches
returns-in_err-matches g c =
    let p = err_from_is_err_and c.from_residual-in_err-matches.result c.from_residual-in_err-matches.ensures.1 in
    let words : map (λ (w : Bor (List ℕ)). w.now) c.deref.result.now ≡ words_in c.args.line.now = ap (map (λ w. w.now)) c.deref.ensures.value ∙ c.in_ok-words.ensures.words in
    rw (p.1, p.2) (unread _ (line_unread c.args.line.now _ c.in_err-matches.field-0.0 words c.in_err-matches.ensures.fails))

pub returns : goal.returns
returns g c =
    let words : map (λ (w : Bor (List ℕ)). w.now) c.deref.result.now ≡ words_in c.args.line.now = ap (map (λ w. w.now)) c.deref.ensures.value ∙ c.in_ok-words.ensures.words in
    ordered_as (sym (line_read c.args.line.now _ c.in_ok-matches.matches words c.in_ok-words.ensures.no_dash c.in_ok-matches.ensures.fails c.in_ok-matches.ensures.reads)) c.obey_order.ensures
