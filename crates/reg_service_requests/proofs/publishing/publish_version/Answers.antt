use Rattle.reg_service_requests.proofs.Words.{publication_of, runs_as}
use Rattle.reg_service_requests.proofs.Publications.{of_known, of_new}
use Rattle.reg_service_requests.proofs.publishing.publish_version.Goals as goal

pub returns-in-Some : goal.returns-in-Some
returns-in-Some g c =
    runs_as g.S.Store c.publish_next.result c.args.work.now c.publish_next.new.work
    (λ it publishes. of_known c.args.limits.now c.args.principal.now (publication_of c.args.new.now) _ _ it c.in-Some.found c.in-Some.is publishes) c.publish_next.ensures

pub returns-in-None : goal.returns-in-None
returns-in-None g c =
    runs_as g.S.Store c.publish_first.result c.args.work.now c.publish_first.new.work
    (λ it publishes. of_new c.args.limits.now c.args.principal.now (publication_of c.args.new.now) _ _ it c.in-None.is publishes) c.publish_first.ensures
