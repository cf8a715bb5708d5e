use Rattle.reg_service_commands.proofs.TokensAsked.{tokens_asked}
use Rattle.reg_service_commands.proofs.reports.tokens.tokens_report.Goals as goal

pub returns-in-Ok : goal.returns-in-Ok
returns-in-Ok g c =
    tokens_asked g.S.Store c.in_ok-accounts.accounts c.in_ok-both.both c.in-Ok.text c.args.work.now c.all_accounts.new.self c.all_tokens.new.self
    c.in_ok-accounts.ensures c.in_ok-both.ensures
    (rw (c.deref.ensures.value, c.deref-2.ensures.value, c.deref-3.ensures.value) at c.in-Ok.ensures)
