use Rattle.reg_service_commands.proofs.Words.{Counted, nat_le, ap, asks_made}
use Rattle.std.specs.Prelude.{length}
use Rattle.reg_service_commands.proofs.accounts.is_full.Goals as goal

pub returns : goal.returns
returns g c =
    asks_made g.S.Store {P = Counted (λ s. length s.accounts)} c.in_ok-accounts.accounts _ c.args.work.now c.count_accounts.new.self
    (λ h ids s holds. ap (nat_le c.args.limits.now.accounts) (h ids s holds))
    c.in_ok-accounts.ensures
