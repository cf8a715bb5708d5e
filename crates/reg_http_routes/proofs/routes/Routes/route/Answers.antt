use Rattle.std.proofs.Common.{refl}
use Rattle.reg_http_read.specs.Reads.{facts_of}
use Rattle.reg_http_routes.proofs.Leading.{no_route, other_method, right_method}
use Rattle.reg_http_routes.proofs.routes.Routes.route.Goals as goal

pub returns-in_default : goal.returns-in_default
returns-in_default c =
    no_route (facts_of c.args.head.now) c.args.body.now c.split.result.0.now c.split.ensures.path
    c.in_default.ensures.place

pub returns-then-not-are_with : goal.returns-then-not-are_with
returns-then-not-are_with c =
    other_method (facts_of c.args.head.now) c.args.body.now c.split.result.0.now c.split.ensures.path
    c.in-Some.place c.methods-methods.result c.in-Some.ensures.place c.methods-methods.ensures c.if-not-are_with.ensures

pub returns : goal.returns
returns c = (
  refl,
  right_method (facts_of c.args.head.now) c.args.body.now c.split.result.0.now c.split.ensures.path
      c.in-Some.place c.methods-methods.result c.in-Some.ensures.place c.methods-methods.ensures _ c.if-not-are_with.ensures c.in_ok-call_at.ensures,
)
