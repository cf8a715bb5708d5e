use Rattle.reg_service_requests.proofs.Words.{publication_of, runs_after, runs_asked}
use Rattle.reg_service_requests.proofs.Publications.{first_let, first_refused}
use Rattle.reg_service_requests.proofs.publishing.publish_first.Goals as goal

pub returns-then-full : goal.returns-then-full
returns-then-full g c =
    runs_asked g.S.Store c.in_ok-full.full _ c.args.work.now c.is_full.new.work c.in_ok-full.ensures
    (λ full. first_refused c.args.limits.now c.args.owner (publication_of c.args.new.now) _ (rw c.if-full.true at full))

pub returns : goal.returns
returns g c =
    runs_after g.S.Store c.in_ok-full.full _ c.args.work.now c.is_full.new.work c.make_crate.new.work c.in_ok-full.ensures c.make_crate.ensures
    (λ it full. first_let c.args.limits.now c.args.owner (publication_of c.args.new.now) _ _ it (rw c.if-full.false at full))
