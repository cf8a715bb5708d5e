use Rattle.reg_service_commands.proofs.Words.{FindsAccount, asks_both, asks_made}
use Rattle.reg_service_commands.proofs.Named.{no_pair_known, no_pair_named, pair_named}
use Rattle.reg_service_commands.proofs.finding.find_pair.Goals as goal

pub returns-in_default : goal.returns-in_default
returns-in_default g c =
    asks_made g.S.Store c.in_ok-named.field-0 _ c.args.work.now c.find_named.new.work
    (λ is. no_pair_named c.args.name.now c.args.login.now _ (rw c.in_default.is at is)) c.in_ok-named.ensures

pub returns-in-Some-2 : goal.returns-in-Some-2
returns-in-Some-2 g c =
    asks_made g.S.Store (c.in_ok-named.field-0, c.in_ok-account.field-0) _ c.args.work.now c.account_by_login.new.self
    (λ h. pair_named c.args.name.now c.args.login.now _ c.in-Some.named c.in-Some-2.account (rw c.in-Some.is at h.0) (rw c.in-Some-2.is at h.1))
    (asks_both g.S.Store {Q = FindsAccount c.args.login.now} c.in_ok-named.field-0 c.in_ok-account.field-0 c.args.work.now c.find_named.new.work c.account_by_login.new.self c.in_ok-named.ensures
    c.in_ok-account.ensures)

pub returns-in-None : goal.returns-in-None
returns-in-None g c =
    asks_made g.S.Store (c.in_ok-named.field-0, c.in_ok-account.field-0) _ c.args.work.now c.account_by_login.new.self
    (λ h. no_pair_known c.args.name.now c.args.login.now _ c.in-Some.named (rw c.in-Some.is at h.0) (rw c.in-None.is at h.1))
    (asks_both g.S.Store {Q = FindsAccount c.args.login.now} c.in_ok-named.field-0 c.in_ok-account.field-0 c.args.work.now c.find_named.new.work c.account_by_login.new.self c.in_ok-named.ensures
    c.in_ok-account.ensures)
