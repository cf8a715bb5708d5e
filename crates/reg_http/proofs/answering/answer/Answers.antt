use Rattle.reg_http.proofs.Words.{ap, subst, sym, option_map, request_from, event_of, HasLine, limits_of, tables_of, Finds, GoesOn, tail}
use Rattle.reg_api_requests.specs.Requests.{request_of}
use Rattle.reg_api_requests.specs.Wants.{wants_of}
use Rattle.reg_http.proofs.Kept.{goes_on}
use Rattle.reg_http.proofs.Outcomes.{handled}
use Rattle.reg_http.proofs.Trails.{trailed_nothing}
use Rattle.reg_http.proofs.answering.answer.Goals as goal

pub returns-in-Replied : goal.returns-in-Replied
returns-in-Replied g c =
    let limits = limits_of c.args.registry.now in
    let request = c.args.request.now in
    let it = c.in-Replied.acted in
    let acted = c.in-Replied.ensures in
    record {
      replied = λ f same clean s shows.
          (let (a, says, answers, lined) = acted.replies clean s shows in
          handled g.S.Store limits s f (option_map (λ t. t.now) request.token) same c.args.close (tables_of c.args.registry.now) (tables_of c.handle_traced.new.self)
          (tail (g.T.Write.contents c.args.trail.now.end.inner) c.args.trail.now) (tail (g.T.Write.contents c.tell.new.self.end.inner) c.tell.new.self)
          (g.W.Write.contents c.args.w.now.inner) (g.W.Write.contents c.send_reply.new.w.inner) c.send_reply.result c.answer_law.ensures (wants_of request.call) it.reply it.line
          acted.read a says answers (subst (λ b. HasLine b limits s (event_of (request_of limits request)) a it.line) c.is_open.ensures lined)
          c.tell.ensures.tells (λ none. ap (λ t. tail (g.T.Write.contents t.end.inner) t) (c.tell.ensures.stays none)) c.send_reply.ensures.sends);
      spends = c.send_reply.ensures.spends;
      fewer = c.send_reply.ensures.some;
      told = (_, c.tell.ensures.tells);
      keeps = record { clean = c.handle_traced.ensures.clean; limits = c.handle_traced.ensures.limits };
    }

pub returns-in-Found : goal.returns-in-Found
returns-in-Found g c =
    let limits = limits_of c.args.registry.now in
    let request = c.args.request.now in
    let old = tables_of c.args.registry.now in
    let found = tables_of c.handle_traced.new.self in
    let k = tail (g.T.Write.contents c.args.trail.now.end.inner) c.args.trail.now in
    let sent = c.send_index.ensures in
    let kept : GoesOn g.S.Store c.args.registry.now c.handle_traced.new.self = record { clean = c.handle_traced.ensures.clean; limits = c.handle_traced.ensures.limits } in
    record {
      replied = λ f same clean s shows.
          sent.replied k clean limits f (wants_of request.call) s old
          (subst (λ t. let asks = request_from limits t (wants_of request.call) in Finds g.S.Store limits s asks.digest asks.asked c.in-Found.file old found) (sym same) (c.in-Found.ensures.replies (sent.keeps.clean clean) s shows));
      spends = sent.spends;
      fewer = sent.fewer;
      told = trailed_nothing k;
      keeps = goes_on kept sent.keeps;
    }
