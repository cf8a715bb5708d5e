use Rattle.reg_service_commands.proofs.Words.{FindsAccount, sym, ◌∙◌, asks_both, asks_made}
use Rattle.reg_service_commands.proofs.Adding.{is_counted, is_taken}
use Rattle.reg_service_commands.proofs.accounts.refuses_account.Goals as goal

pub returns-then-is_some : goal.returns-then-is_some
returns-then-is_some g c =
    asks_made g.S.Store {P = FindsAccount c.args.login.now} c.in_ok-found.found _ c.args.work.now c.account_by_login.new.self
    (λ h. is_taken c.args.limits.now c.args.login.now _ c.in_ok-found.found h (sym c.is_some.ensures ∙ c.if-is_some.true))
    c.in_ok-found.ensures

pub returns : goal.returns
returns g c =
    asks_made g.S.Store (c.in_ok-found.found, c.in_ok-full.full) _ c.args.work.now c.is_full.new.work
    (λ h ids s holds. is_counted c.args.limits.now c.args.login.now _ c.in_ok-found.found c.in_ok-full.full h.0 (sym c.is_some.ensures ∙ c.if-is_some.false) h.1 ids s holds ∙ sym c.refused_if.ensures)
    (asks_both g.S.Store {P = FindsAccount c.args.login.now} c.in_ok-found.found c.in_ok-full.full c.args.work.now c.account_by_login.new.self c.is_full.new.work
    c.in_ok-found.ensures c.in_ok-full.ensures)
