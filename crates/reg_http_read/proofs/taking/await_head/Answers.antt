use Rattle.reg_http_read.proofs.Common.{[], ◌≡◌, ◌∙◌, ap, append-nil, inl, inr, refl, err_from_is_err_and, IsRefused, reads_of}
use Rattle.reg_model.specs.declared.rule.Rule.TheVariants as rule
use Rattle.reg_http_read.proofs.Adding.{reads_nothing, reads_on, spends_for, spends_nothing, spends_some}
use Rattle.reg_http_read.proofs.Requests.{found_awaits}
use Rattle.reg_http_read.specs.Begun.{begins_head}
use Rattle.reg_http_read.proofs.Waiting.{await_ended, await_failed, await_unread}
use Rattle.reg_http_read.proofs.taking.await_head.Goals as goal

pub judged-init : goal.judged-init
judged-init g c =
    let was = c.args.pending.now.items in
    record {
      reads = reads_nothing (g.R.Read.remaining c.args.r.now.inner) was was (λ rest. was ≡ rest) refl;
      spends = spends_nothing c.args.left.now (reads_of c.args.r.now);
      chunk = refl;
    }

pub returns-in-Ok-Some-clause-awaits : goal.returns-in-Ok-Some-clause-awaits
returns-in-Ok-Some-clause-awaits g c =
    found_awaits (g.R.Read.remaining c.args.r.now.inner) (g.R.Read.remaining c.judged.r.inner) c.args.pending.now.items c.judged.pending.items c.args.limits.now c.in-Ok-Some.found
    c.judged.invariant.reads (rw (c.in-Ok-Some.is, c.deref.ensures.value, c.in-Ok-Some.field-0-is) at c.find_head.ensures).found

pub returns-in-Ok-Some-clause-spends : goal.returns-in-Ok-Some-clause-spends
returns-in-Ok-Some-clause-spends g c = c.judged.invariant.spends

pub returns-in-Err-clause-awaits : goal.returns-in-Err-clause-awaits
returns-in-Err-clause-awaits g c =
    await_unread (g.R.Read.remaining c.args.r.now.inner) (g.R.Read.remaining c.judged.r.inner) c.args.pending.now.items c.judged.pending.items
    c.judged.invariant.reads c.args.limits.now c.begins_head.result (rw (c.in-Err.is, c.deref.ensures.value) at c.find_head.ensures).some
    (c.begins_head.ensures ∙ ap begins_head (append-nil _ ∙ c.deref-in-Err.ensures.value))

pub returns-in-Err-clause-spends : goal.returns-in-Err-clause-spends
returns-in-Err-clause-spends g c = c.judged.invariant.spends

pub returns-in_err-read_line-clause-awaits : goal.returns-in_err-read_line-clause-awaits
returns-in_err-read_line-clause-awaits g c =
    let p = err_from_is_err_and c.from_residual.result c.from_residual.ensures.1 in
    let read = g.R.Read.remaining in
    rw (p.1, p.2)
    (await_failed (read c.args.r.now.inner) (read c.judged.r.inner) (read c.read_line.new.r.inner) c.args.pending.now.items c.judged.pending.items c.read_line.new.pending.items
    c.judged.invariant.reads c.args.limits.now c.in_err-read_line.field-0.0 c.in_err-read_line.ensures.line)

pub returns-in_err-read_line-clause-spends : goal.returns-in_err-read_line-clause-spends
returns-in_err-read_line-clause-spends g c =
    let p = err_from_is_err_and c.from_residual.result c.from_residual.ensures.1 in
    rw (p.1, p.2)
    (spends_for c.args.left.now c.judged.left c.read_line.new.left (reads_of c.args.r.now) (reads_of c.judged.r) (reads_of c.read_line.new.r)
    c.judged.invariant.spends c.in_err-read_line.field-0.0 c.in_err-read_line.ensures.spends)

pub judged-preserved : goal.judged-preserved
judged-preserved g c =
    let read = g.R.Read.remaining in
    let now = c.read_line.new.pending.items in
    record {
      reads = reads_on (read c.args.r.now.inner) (read c.judged.r.inner) (read c.read_line.new.r.inner) c.args.pending.now.items c.judged.pending.items now
          (λ rest. now ≡ rest) c.judged.invariant.reads (rw c.in-More.is at c.in_ok-read_line.ensures.line);
      spends = spends_some c.args.left.now c.judged.left c.read_line.new.left (reads_of c.args.r.now) (reads_of c.judged.r) (reads_of c.read_line.new.r)
          c.judged.invariant.spends c.in_ok-read_line.ensures.spends;
      chunk = c.in_ok-read_line.ensures.chunk ∙ c.judged.invariant.chunk;
    }

pub returns-in-End-clause-awaits : goal.returns-in-End-clause-awaits
returns-in-End-clause-awaits g c =
    let read = g.R.Read.remaining in
    await_ended (read c.args.r.now.inner) (read c.judged.r.inner) (read c.read_line.new.r.inner) c.args.pending.now.items c.judged.pending.items c.read_line.new.pending.items
    c.judged.invariant.reads c.args.limits.now (rw c.in-End.is at c.in_ok-read_line.ensures.line)

pub returns-in-End-clause-spends : goal.returns-in-End-clause-spends
returns-in-End-clause-spends g c =
    spends_some c.args.left.now c.judged.left c.read_line.new.left (reads_of c.args.r.now) (reads_of c.judged.r) (reads_of c.read_line.new.r)
    c.judged.invariant.spends c.in_ok-read_line.ensures.spends

pub returns-in-NoMemory-clause-awaits : goal.returns-in-NoMemory-clause-awaits
returns-in-NoMemory-clause-awaits g c =
    let p = rw c.in-NoMemory.is at c.in_ok-read_line.ensures.line in
    let read = g.R.Read.remaining in
    reads_on (read c.args.r.now.inner) (read c.judged.r.inner) (read c.read_line.new.r.inner) c.args.pending.now.items c.judged.pending.items c.read_line.new.pending.items
    (λ rest. IsRefused c.args.limits.now rest [] rule.S1 c.in-NoMemory.head_only) c.judged.invariant.reads
    (p.0, p.1, inr (refl, inl (p.2.0, refl, p.2.1)))

pub returns-in-NoMemory-clause-spends : goal.returns-in-NoMemory-clause-spends
returns-in-NoMemory-clause-spends g c =
    spends_some c.args.left.now c.judged.left c.read_line.new.left (reads_of c.args.r.now) (reads_of c.judged.r) (reads_of c.read_line.new.r)
    c.judged.invariant.spends c.in_ok-read_line.ensures.spends
