use Rattle.reg_access.proofs.Questions.{asks_made}
use Rattle.reg_service_requests.proofs.OwningIds.{known_one}
use Rattle.reg_service_requests.proofs.owning.find_known.Goals as goal

pub returns : goal.returns
returns g c =
    asks_made g.S.Store c.in_ok-found.found _ c.args.work.now c.account_by_login.new.self
    (λ finds. rw c.id_if_enabled.ensures (known_one c.args.login.now _ c.in_ok-found.found finds)) c.in_ok-found.ensures
