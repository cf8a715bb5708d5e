use Rattle.reg_service.proofs.Words.{◌≡◌, ◌∙◌, inl, subst, option_map, IsFit, request_of, limits_of, tables_of}
use Rattle.reg_api_requests.specs.Views.{event_of}
use Rattle.reg_service.proofs.Replied.{no_memory}
use Rattle.reg_service.proofs.Traced.{untold}
use Rattle.reg_service.proofs.registry.Registry.handle_traced.Goals as goal

pub returns-in_default-clause-replies : goal.returns-in_default-clause-replies
returns-in_default-clause-replies g c clean s h =
    let asks = request_of (limits_of c.args.self.now) c.args.request.now in
    let t = tables_of c.args.self.now in
    untold g.S.Store (limits_of c.args.self.now) s c.args.traced asks.digest asks.asked t t c.denied.result
    (no_memory g.S.Store (limits_of c.args.self.now) s asks.digest asks.asked t h) c.denied.ensures.reply c.denied.ensures.line

pub returns-clause-replies : goal.returns-clause-replies
returns-clause-replies g c =
    let digest : option_map (λ d. d.now) c.as_ref.result ≡ (request_of c.self.inside.limits c.args.request.now).digest =
    c.as_ref.ensures.value ∙ c.digest_shown-digest.ensures in
    rw (← c.self.view_is) (rw (c.in-Ok.ensures.asked, digest) at c.request_in.ensures.replies)

pub returns-clause-read : goal.returns-clause-read
returns-clause-read g c =
    let asks = request_of c.self.inside.limits c.args.request.now in
    inl (subst (λ r. IsFit (event_of (request_of (limits_of r) c.args.request.now))) c.self.view_is (rw c.in-Ok.ensures.asked at (c.in-Ok.ensures.fit asks.digest)))
