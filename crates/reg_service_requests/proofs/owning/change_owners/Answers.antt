use Rattle.reg_service_steps.proofs.Running.{runs_made}
use Rattle.reg_service_requests.proofs.owning.change_owners.Goals as goal

pub returns : goal.returns
returns g c = runs_made g.S.Store c.in_ok-set_owners.field-0 _ c.args.work.now c.set_owners.new.work (λ sets. (c.in-Ok.ensures, sets)) c.in_ok-set_owners.ensures
