use Rattle.reg_http.proofs.Words.{facts_of, routing_of, limits_of, tables_of, tail}
use Rattle.reg_http.proofs.Kept.{still}
use Rattle.reg_http.proofs.Outcomes.{routed, unrouted}
use Rattle.reg_http.proofs.Trails.{trailed_nothing}
use Rattle.reg_http.proofs.answering.answer_message.Goals as goal

pub returns-in-Ok : goal.returns-in-Ok
returns-in-Ok g c =
    let message = c.args.message.now in
    let f = facts_of message.head in
    routed (limits_of c.args.registry.now) f (routing_of f message.body.now) message.close c.in-Ok.request c.route.result c.in-Ok.is c.route.ensures c.answer.ensures

pub returns-in-Err : goal.returns-in-Err
returns-in-Err g c =
    let message = c.args.message.now in
    let f = facts_of message.head in
    let k = tail (g.T.Write.contents c.args.trail.now.end.inner) c.args.trail.now in
    record {
      replied = λ clean s shows.
          unrouted g.S.Store (limits_of c.args.registry.now) s f f.token (routing_of f message.body.now) message.close (tables_of c.args.registry.now) k (g.W.Write.contents c.args.w.now.inner)
          (g.W.Write.contents c.send_reply.new.w.inner) c.send_reply.result c.in-Err.fault
          (rw c.in-Err.is at c.route.ensures) (rw (c.refusal-reply.ensures, c.is_head_only-head_only.ensures) at c.send_reply.ensures.sends);
      spends = c.send_reply.ensures.spends;
      fewer = c.send_reply.ensures.some;
      told = trailed_nothing k;
      keeps = still;
    }
