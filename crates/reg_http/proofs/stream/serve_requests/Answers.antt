use Rattle.reg_http.proofs.Words.{◌∙◌, ◌+◌, ◌<◌, ◌≤◌, ap, arith, length, facts_of, tally, limits_of, tables_of, tail}
use Rattle.reg_http_read.proofs.Adding.{spends_nothing}
use Rattle.reg_http.proofs.Kept.{still}
use Rattle.reg_http.proofs.Requests.{Asked, exits, refusal_lost, refusal_told, request_last, request_lost, request_sent, stream_ended, taking_lost, whole_fits}
use Rattle.reg_http.proofs.Steps.{holds_start}
use Rattle.reg_http.proofs.Trails.{trailed_nothing}
use Rattle.reg_http.proofs.stream.serve_requests.Given.{Over}
use Rattle.reg_http.proofs.stream.serve_requests.Goals.{After-answer_message, After-closes-close, In_ok-answer_message}
use Rattle.reg_http.proofs.stream.serve_requests.Goals as goal

pub requests-init : goal.requests-init
requests-init g c =
    let k0 = tail (g.T.Write.contents c.args.trail.now.end.inner) c.args.trail.now in
    record {
      so_far = record {
        keeps = still;
        holds = λ clean s shows.
            rw c.new-pending.ensures.items (holds_start g.S.Store (limits_of c.args.registry.now) s
            (tables_of c.args.registry.now) k0 (g.R.Read.remaining c.args.r.now.inner) (g.W.Write.contents c.args.w.now.inner) (tables_of c.args.registry.now)
            (c.history_law.ensures.begins (limits_of c.args.registry.now) s (tables_of c.args.registry.now) shows));
        spends = rw (c.limits.ensures) (spends_nothing (limits_of c.args.registry.now).turns (tally c.args.r.now c.args.w.now));
        told = trailed_nothing k0;
      };
      chunk = c.requires.some;
      replies = omega (arith, ap (λ l. l.turns) c.limits.ensures);
    }

pub take_request-requires : goal.take_request-requires
take_request-requires g c =
    let spends = c.requests.invariant.so_far.spends in
    record {
      reads = omega (arith, c.requires.may.reads, spends.turns, spends.writes);
      writes = omega (arith, c.requires.may.writes, spends.turns, spends.reads);
      some = c.requests.invariant.chunk;
    }

pub returns-in_err-take_request : goal.returns-in_err-take_request
returns-in_err-take_request g c = record {
  served =
      exits c.from_residual.result c.from_residual.ensures.1
      (taking_lost c.requests.invariant.so_far c.take_request.new.r c.take_request.new.w c.take_request.new.left c.take_request.new.pending.items
      _ c.limits.ensures _ c.in_err-take_request.ensures.takes c.in_err-take_request.ensures.spends);
  chunk = c.in_err-take_request.ensures.chunk ∙ c.requests.auto.chunk;
}

pub returns-in-End : goal.returns-in-End
returns-in-End g c = record {
  served =
      stream_ended c.requests.invariant.so_far c.take_request.new.r c.take_request.new.w c.take_request.new.left c.take_request.new.pending.items
      _ c.limits.ensures _ c.in_ok-take_request.ensures.takes c.in_ok-take_request.ensures.spends c.in-End.is;
  chunk = c.in_ok-take_request.ensures.chunk ∙ c.requests.auto.chunk;
}

pub deny-requires : goal.deny-requires
deny-requires g c =
    let spends = c.requests.invariant.so_far.spends in
    let taken = c.in_ok-take_request.ensures.spends in
    omega (arith, c.requires.may.writes, spends.turns, spends.reads, taken.turns, taken.reads)

pub returns-in_err-deny-in-Refused : goal.returns-in_err-deny-in-Refused
returns-in_err-deny-in-Refused g c = record {
  served =
      exits c.from_residual-in_err-deny-in-Refused.result c.from_residual-in_err-deny-in-Refused.ensures.1
      (refusal_lost c.requests.invariant.so_far c.take_request.new.r c.take_request.new.w c.take_request.new.left c.take_request.new.pending.items
      _ c.limits.ensures _ c.in_ok-take_request.ensures.takes c.in_ok-take_request.ensures.spends c.in-Refused.rule c.in-Refused.head_only c.in-Refused.is
      c.deny.new.w c.deny.new.left _ c.in_err-deny-in-Refused.ensures.sends c.in_err-deny-in-Refused.ensures.spends);
  chunk = c.in_ok-take_request.ensures.chunk ∙ c.requests.auto.chunk;
}

pub returns-in-Refused : goal.returns-in-Refused
returns-in-Refused g c = record {
  served =
      refusal_told c.requests.invariant.so_far c.take_request.new.r c.take_request.new.w c.take_request.new.left c.take_request.new.pending.items
      _ c.limits.ensures _ c.in_ok-take_request.ensures.takes c.in_ok-take_request.ensures.spends c.in-Refused.rule c.in-Refused.head_only c.in-Refused.is
      c.deny.new.w c.deny.new.left c.in_ok-deny-in-Refused.ensures.sends c.in_ok-deny-in-Refused.ensures.spends;
  chunk = c.in_ok-take_request.ensures.chunk ∙ c.requests.auto.chunk;
}

fits : (g : Over) (c : After-closes-close g) → c.in-Whole.head.len + c.in-Whole.head.body_len ≤ length c.take_request.new.pending.items
fits g c =
    whole_fits c.requests.invariant.so_far c.take_request.new.r c.take_request.new.w c.take_request.new.left c.take_request.new.pending.items
    _ c.limits.ensures _ c.in_ok-take_request.ensures.takes c.in_ok-take_request.ensures.spends
    c.in-Whole.head c.in-Whole.is

pub overflow_add-total : goal.overflow_add-total
overflow_add-total g c = let le = fits g c in let pending = c.take_request.new.pending in omega (arith, pending.ok.0, pending.small)

pub message_of-message-requires : goal.message_of-message-requires
message_of-message-requires g c = rw c.deref.ensures.value (fits g (goal.at.message_of-message-requires g c).After-closes-close)

pub drop_front-requires : goal.drop_front-requires
drop_front-requires g c =
    let le = fits g (goal.at.drop_front-requires g c).After-closes-close in
    omega (arith, c.take_request.new.pending.ok.0)

pub answer_message-requires : goal.answer_message-requires
answer_message-requires g c =
    let spends = c.requests.invariant.so_far.spends in
    let taken = c.in_ok-take_request.ensures.spends in
    record { room = omega (arith, c.requires.may.writes, spends.turns, spends.reads, taken.turns, taken.reads) }

smaller : (g : Over) (c : In_ok-answer_message g) → c.answer_message.new.left < c.requests.left
smaller g c =
    let taken = c.in_ok-take_request.ensures.spends in
    omega (arith, c.in_ok-answer_message.ensures.fewer, taken.turns, taken.reads, taken.writes)

pub overflow_add-replies : goal.overflow_add-replies
overflow_add-replies g c = let less = smaller g c in omega (arith, c.requests.invariant.replies, c.requires.may.reads)

pub requests-smaller : goal.requests-smaller
requests-smaller g c = smaller g (goal.at.requests-smaller g c).In_ok-answer_message

asked : (g : Over) (c : After-answer_message g)
    → Asked g.S.Store g.R.Read.remaining g.W.Write.contents g.T.Write.contents c.args.registry.now c.args.r.now c.args.w.now c.args.trail.now
    c.requests.registry c.requests.trail c.take_request.new.r c.take_request.new.w c.requests.replies c.take_request.new.left c.take_request.new.pending.items c.in-Whole.head
    c.closes-close.result (facts_of c.message_of-message.result.head) c.message_of-message.result.body.now c.message_of-message.result.close
asked g c = record {
  alone = c.append_law.ensures.alone;
  stay = c.append_law.ensures.head;
  law = record { run = c.history_law.ensures.goes_on; one = c.telling_law.ensures.one; join = c.telling_law.ensures.join };
  r = c.requests.r;
  w = c.requests.w;
  rest = c.requests.pending.items;
  left = c.requests.left;
  so_far = c.requests.invariant.so_far;
  limits = c.limits.result.now;
  limits_are = c.limits.ensures;
  got = c.in_ok-take_request.field-0;
  got_is = c.in-Whole.is;
  takes = c.in_ok-take_request.ensures.takes;
  spends = c.in_ok-take_request.ensures.spends;
  close_is = c.closes-close.ensures;
  facts_are = c.message_of-message.ensures.head;
  there = c.deref.result.now;
  there_is = c.deref.ensures.value;
  body_is = c.message_of-message.ensures.body;
  shut_is = c.message_of-message.ensures.close;
}

pub returns-in_err-answer_message : goal.returns-in_err-answer_message
returns-in_err-answer_message g c = record {
  served =
      exits c.from_residual-in_err-answer_message.result c.from_residual-in_err-answer_message.ensures.1
      (request_lost (asked g (goal.at.returns-in_err-answer_message g c).After-answer_message) c.in_err-answer_message.ensures);
  chunk = c.in_ok-take_request.ensures.chunk ∙ c.requests.auto.chunk;
}

pub returns-then-close : goal.returns-then-close
returns-then-close g c = record {
  served = request_last (asked g (goal.at.returns-then-close g c).After-answer_message) c.in_ok-answer_message.ensures c.if-close.true;
  chunk = c.in_ok-take_request.ensures.chunk ∙ c.requests.auto.chunk;
}

pub requests-preserved : goal.requests-preserved
requests-preserved g c =
    let less = smaller g (goal.at.requests-preserved g c).In_ok-answer_message in
    record {
      so_far = request_sent (asked g (goal.at.requests-preserved g c).After-answer_message) c.in_ok-answer_message.ensures c.if-close.false c.drop_front.ensures;
      chunk = rw c.in_ok-take_request.ensures.chunk c.requests.invariant.chunk;
      replies = omega (arith, c.requests.invariant.replies);
    }
