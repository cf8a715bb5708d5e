use Rattle.reg_service_requests.proofs.Words.{string_bytes, runs_asked, runs_refused}
use Rattle.reg_service_requests.proofs.ReadingServed.{config_served}
use Rattle.reg_service_requests.proofs.reading.read_config.Goals as goal

pub returns-in-Ok : goal.returns-in-Ok
returns-in-Ok g c =
    runs_asked g.S.Store c.in_ok-base.base _ c.args.work.now c.find_base.new.work c.in_ok-base.ensures
    (λ tells. config_served (string_bytes c.in_ok-base.base) c.in-Ok.text _ (rw c.deref.ensures at c.in-Ok.ensures) tells)

pub returns : goal.returns
returns g c =
    runs_refused g.S.Store c.in_ok-base.base c.fail.result c.args.work.now c.find_base.new.work c.fail.new.self c.fail.ensures.fails c.in_ok-base.ensures c.fail.ensures.leaves
