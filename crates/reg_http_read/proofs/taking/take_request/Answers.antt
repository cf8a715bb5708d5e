use Rattle.reg_http_read.proofs.Common.{arith, ap, ◌∙◌, ◌++◌, length, err_from_is_err_and, is_head_only, facts_owned, tally}
use Rattle.reg_http_read.proofs.Adding.{spends_for}
use Rattle.reg_http_read.proofs.Requests.{Begins, ask_failed, head_ended, head_failed, head_refused, rest_ended, rest_failed, rest_refused, rest_whole}
use Rattle.reg_http_read.proofs.Tallies.{all_asked, asked, reads_for, reads_some, writes_for}
use Rattle.reg_http_read.proofs.taking.take_request.Given.{Over}
use Rattle.reg_http_read.proofs.taking.take_request.Goals.{After-await_rest}
use Rattle.reg_http_read.proofs.taking.take_request.Goals as goal

pub returns-in_err-await_head : goal.returns-in_err-await_head
returns-in_err-await_head g c =
    let p = err_from_is_err_and c.from_residual.result c.from_residual.ensures.1 in
    let fault = c.in_err-await_head.field-0.0 in
    rw (p.1, p.2) (record {
      takes = head_failed (g.R.Read.remaining c.args.r.now.inner) (g.R.Read.remaining c.await_head.new.r.inner)
          c.args.pending.now.items c.await_head.new.pending.items c.args.limits.now (g.W.Write.contents c.args.w.now.inner) fault c.in_err-await_head.ensures.awaits;
      spends = reads_for c.args.left.now c.await_head.new.left c.args.r.now c.await_head.new.r c.args.w.now fault c.in_err-await_head.ensures.spends;
      chunk = c.in_err-await_head.ensures.chunk;
    })

pub returns-in-End : goal.returns-in-End
returns-in-End g c = record {
  takes =
      head_ended (g.R.Read.remaining c.args.r.now.inner) (g.R.Read.remaining c.await_head.new.r.inner)
      c.args.pending.now.items c.await_head.new.pending.items c.args.limits.now (g.W.Write.contents c.args.w.now.inner)
      (rw c.in-End.is at c.in_ok-await_head.ensures.awaits);
  spends = reads_some c.args.left.now c.await_head.new.left c.args.r.now c.await_head.new.r c.args.w.now c.in_ok-await_head.ensures.spends;
  chunk = c.in_ok-await_head.ensures.chunk;
}

pub returns-in-Refused : goal.returns-in-Refused
returns-in-Refused g c = record {
  takes =
      head_refused (g.R.Read.remaining c.args.r.now.inner) (g.R.Read.remaining c.await_head.new.r.inner)
      c.args.pending.now.items c.await_head.new.pending.items c.args.limits.now (g.W.Write.contents c.args.w.now.inner)
      c.in-Refused.rule c.in-Refused.head_only (rw c.in-Refused.is at c.in_ok-await_head.ensures.awaits);
  spends = reads_some c.args.left.now c.await_head.new.left c.args.r.now c.await_head.new.r c.args.w.now c.in_ok-await_head.ensures.spends;
  chunk = c.in_ok-await_head.ensures.chunk;
}

pub ask_on-requires : goal.ask_on-requires
ask_on-requires g c = let spent = c.in_ok-await_head.ensures.spends in omega (arith, c.requires.writes, spent.turns, spent.reads)

pub returns-in_err-ask_on : goal.returns-in_err-ask_on
returns-in_err-ask_on g c =
    let p = err_from_is_err_and c.from_residual-in_err-ask_on.result c.from_residual-in_err-ask_on.ensures.1 in
    let first = rw c.in-Head.is at c.in_ok-await_head.ensures.awaits in
    let read = c.await_head.new.r in
    let fault = c.in_err-ask_on.field-0.0 in
    rw (p.1, p.2) (record {
      takes =
          ask_failed c.args.limits.now c.append_law.ensures.head c.in-Head.head (g.R.Read.remaining c.args.r.now.inner) (g.R.Read.remaining read.inner)
          c.args.pending.now.items c.await_head.new.pending.items first
          (g.W.Write.contents c.args.w.now.inner) (g.W.Write.contents c.ask_on.new.w.inner) fault c.in_err-ask_on.ensures.sends;
      spends =
          spends_for c.args.left.now c.await_head.new.left c.ask_on.new.left (tally c.args.r.now c.args.w.now) (tally read c.args.w.now) (tally read c.ask_on.new.w)
          (reads_some c.args.left.now c.await_head.new.left c.args.r.now read c.args.w.now c.in_ok-await_head.ensures.spends) fault
          (writes_for c.await_head.new.left c.ask_on.new.left read c.args.w.now c.ask_on.new.w fault c.in_err-ask_on.ensures.spends);
      chunk = c.in_ok-await_head.ensures.chunk;
    })

pub await_rest-requires : goal.await_rest-requires
await_rest-requires g c =
    let (a, read, (same, head)) = rw c.in-Head.is at c.in_ok-await_head.ensures.awaits in
    let spent = c.in_ok-await_head.ensures.spends in
    let wrote = c.in_ok-ask_on.ensures.spends in
    record {
      room = omega (arith, c.requires.reads, spent.turns, spent.reads, wrote.turns, wrote.writes);
      some = rw c.in_ok-await_head.ensures.chunk c.requires.some;
      head = omega (arith, c.bounds_law.ensures.within c.args.limits.now (c.args.pending.now.items ++ a) (facts_owned c.in-Head.head) head, ap (λ l. length l) same);
    }

begins : (g : Over) (c : After-await_rest g)
    → Begins c.args.limits.now c.in-Head.head (g.R.Read.remaining c.args.r.now.inner) (g.R.Read.remaining c.await_head.new.r.inner) c.args.pending.now.items c.await_head.new.pending.items
    (g.W.Write.contents c.args.w.now.inner) (g.W.Write.contents c.ask_on.new.w.inner)
begins g c = record { stay = c.append_law.ensures.head; first = rw c.in-Head.is at c.in_ok-await_head.ensures.awaits; sent = c.in_ok-ask_on.ensures.sends }

pub returns-in_err-await_rest : goal.returns-in_err-await_rest
returns-in_err-await_rest g c =
    let p = err_from_is_err_and c.from_residual-in_err-await_rest.result c.from_residual-in_err-await_rest.ensures.1 in
    let read = c.await_head.new.r in
    let wrote = c.ask_on.new.w in
    let fault = c.in_err-await_rest.field-0.0 in
    rw (p.1, p.2) (record {
      takes =
          rest_failed (begins g (goal.at.returns-in_err-await_rest g c).After-await_rest) (g.R.Read.remaining c.await_rest.new.r.inner) c.await_rest.new.pending.items
          fault c.in_err-await_rest.ensures.fills;
      spends =
          spends_for c.args.left.now c.ask_on.new.left c.await_rest.new.left (tally c.args.r.now c.args.w.now) (tally read wrote) (tally c.await_rest.new.r wrote)
          (asked c.args.left.now c.await_head.new.left c.ask_on.new.left c.args.r.now read c.args.w.now wrote c.in_ok-await_head.ensures.spends c.in_ok-ask_on.ensures.spends)
          fault
          (reads_for c.ask_on.new.left c.await_rest.new.left read c.await_rest.new.r wrote fault c.in_err-await_rest.ensures.spends);
      chunk = c.in_err-await_rest.ensures.chunk ∙ c.in_ok-await_head.ensures.chunk;
    })

pub returns-in-Whole : goal.returns-in-Whole
returns-in-Whole g c = record {
  takes =
      rest_whole (begins g (goal.at.returns-in-Whole g c).After-await_rest) (g.R.Read.remaining c.await_rest.new.r.inner) c.await_rest.new.pending.items
      (rw c.in-Whole.is at c.in_ok-await_rest.ensures.fills);
  spends =
      all_asked c.args.left.now c.await_head.new.left c.ask_on.new.left c.await_rest.new.left c.args.r.now c.await_head.new.r c.await_rest.new.r c.args.w.now c.ask_on.new.w
      c.in_ok-await_head.ensures.spends c.in_ok-ask_on.ensures.spends c.in_ok-await_rest.ensures.spends;
  chunk = c.in_ok-await_rest.ensures.chunk ∙ c.in_ok-await_head.ensures.chunk;
}

pub returns-in-End-2 : goal.returns-in-End-2
returns-in-End-2 g c = record {
  takes =
      rest_ended (begins g (goal.at.returns-in-End-2 g c).After-await_rest) (g.R.Read.remaining c.await_rest.new.r.inner) c.await_rest.new.pending.items
      (rw c.in-End-2.is at c.in_ok-await_rest.ensures.fills);
  spends =
      all_asked c.args.left.now c.await_head.new.left c.ask_on.new.left c.await_rest.new.left c.args.r.now c.await_head.new.r c.await_rest.new.r c.args.w.now c.ask_on.new.w
      c.in_ok-await_head.ensures.spends c.in_ok-ask_on.ensures.spends c.in_ok-await_rest.ensures.spends;
  chunk = c.in_ok-await_rest.ensures.chunk ∙ c.in_ok-await_head.ensures.chunk;
}

pub returns-in-NoMemory : goal.returns-in-NoMemory
returns-in-NoMemory g c = record {
  takes =
      rest_refused (begins g (goal.at.returns-in-NoMemory g c).After-await_rest) (g.R.Read.remaining c.await_rest.new.r.inner) c.await_rest.new.pending.items c.is_head_only.result
      (c.is_head_only.ensures ∙ ap is_head_only c.as_head.ensures) (rw c.in-NoMemory.is at c.in_ok-await_rest.ensures.fills);
  spends =
      all_asked c.args.left.now c.await_head.new.left c.ask_on.new.left c.await_rest.new.left c.args.r.now c.await_head.new.r c.await_rest.new.r c.args.w.now c.ask_on.new.w
      c.in_ok-await_head.ensures.spends c.in_ok-ask_on.ensures.spends c.in_ok-await_rest.ensures.spends;
  chunk = c.in_ok-await_rest.ensures.chunk ∙ c.in_ok-await_head.ensures.chunk;
}
