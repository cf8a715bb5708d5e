use Rattle.reg_http_read.proofs.Common.{◌≡◌, ◌<◌, arith, length, ◌∙◌, refl, err_from_is_err_and, reads_of}
use Rattle.reg_http_read.proofs.Adding.{reads_nothing, reads_on, spends_for, spends_nothing, spends_some}
use Rattle.reg_http_read.specs.Begun.{begins_head}
use Rattle.reg_http_read.proofs.Lines.{still_begun}
use Rattle.reg_http_read.proofs.Waiting.{line_ended, line_failed}
use Rattle.reg_http_read.proofs.reading.read_line.Goals as goal

pub pieces-init : goal.pieces-init
pieces-init g c =
    let was = c.args.pending.now.items in
    record {
      reads = reads_nothing (g.R.Read.remaining c.args.r.now.inner) was was (λ rest. was ≡ rest) refl;
      begun = c.requires.begun;
      spends = spends_nothing c.args.left.now (reads_of c.args.r.now);
      chunk = refl;
      fewer = omega arith;
    }

pub returns-in_err-read_piece-clause-line : goal.returns-in_err-read_piece-clause-line
returns-in_err-read_piece-clause-line g c =
    let p = err_from_is_err_and c.from_residual.result c.from_residual.ensures.1 in
    let read = g.R.Read.remaining in
    rw (p.1, p.2)
    (line_failed (read c.args.r.now.inner) (read c.pieces.r.inner) (read c.read_piece.new.r.inner) c.args.pending.now.items c.pieces.pending.items c.read_piece.new.pending.items
    c.pieces.invariant.reads c.args.limits.now c.pieces.invariant.begun c.in_err-read_piece.field-0.0 c.in_err-read_piece.ensures.piece)

pub returns-in_err-read_piece-clause-spends : goal.returns-in_err-read_piece-clause-spends
returns-in_err-read_piece-clause-spends g c =
    let p = err_from_is_err_and c.from_residual.result c.from_residual.ensures.1 in
    rw (p.1, p.2)
    (spends_for c.args.left.now c.pieces.left c.read_piece.new.left (reads_of c.args.r.now) (reads_of c.pieces.r) (reads_of c.read_piece.new.r)
    c.pieces.invariant.spends c.in_err-read_piece.field-0.0 c.in_err-read_piece.ensures.spends)

pub returns-in-End-clause-line : goal.returns-in-End-clause-line
returns-in-End-clause-line g c =
    let read = g.R.Read.remaining in
    line_ended (read c.args.r.now.inner) (read c.pieces.r.inner) (read c.read_piece.new.r.inner) c.args.pending.now.items c.pieces.pending.items c.read_piece.new.pending.items
    c.pieces.invariant.reads c.args.limits.now c.pieces.invariant.begun (rw c.in-End.is at c.in_ok-read_piece.ensures.piece)

pub returns-in-End-clause-spends : goal.returns-in-End-clause-spends
returns-in-End-clause-spends g c =
    spends_some c.args.left.now c.pieces.left c.read_piece.new.left (reads_of c.args.r.now) (reads_of c.pieces.r) (reads_of c.read_piece.new.r)
    c.pieces.invariant.spends c.in_ok-read_piece.ensures.spends

pub returns-in-End-clause-fewer : goal.returns-in-End-clause-fewer
returns-in-End-clause-fewer g c = omega (arith, c.in_ok-read_piece.ensures.fewer, c.pieces.invariant.fewer)

pub returns-in-NoMemory-clause-line : goal.returns-in-NoMemory-clause-line
returns-in-NoMemory-clause-line g c =
    let p = rw c.in-NoMemory.is at c.in_ok-read_piece.ensures.piece in
    let read = g.R.Read.remaining in
    reads_on (read c.args.r.now.inner) (read c.pieces.r.inner) (read c.read_piece.new.r.inner) c.args.pending.now.items c.pieces.pending.items c.read_piece.new.pending.items
    (λ rest. (0 < length rest) × (c.in-NoMemory.head_only ≡ begins_head rest)) c.pieces.invariant.reads p

pub returns-in-NoMemory-clause-spends : goal.returns-in-NoMemory-clause-spends
returns-in-NoMemory-clause-spends g c =
    spends_some c.args.left.now c.pieces.left c.read_piece.new.left (reads_of c.args.r.now) (reads_of c.pieces.r) (reads_of c.read_piece.new.r)
    c.pieces.invariant.spends c.in_ok-read_piece.ensures.spends

pub returns-in-NoMemory-clause-fewer : goal.returns-in-NoMemory-clause-fewer
returns-in-NoMemory-clause-fewer g c = omega (arith, c.in_ok-read_piece.ensures.fewer, c.pieces.invariant.fewer)

pub returns-then-ends_line-clause-line : goal.returns-then-ends_line-clause-line
returns-then-ends_line-clause-line g c =
    let read = g.R.Read.remaining in
    let now = c.read_piece.new.pending.items in
    reads_on (read c.args.r.now.inner) (read c.pieces.r.inner) (read c.read_piece.new.r.inner) c.args.pending.now.items c.pieces.pending.items now
    (λ rest. now ≡ rest) c.pieces.invariant.reads (rw c.in-More.is at c.in_ok-read_piece.ensures.piece)

pub returns-then-ends_line-clause-spends : goal.returns-then-ends_line-clause-spends
returns-then-ends_line-clause-spends g c =
    spends_some c.args.left.now c.pieces.left c.read_piece.new.left (reads_of c.args.r.now) (reads_of c.pieces.r) (reads_of c.read_piece.new.r)
    c.pieces.invariant.spends c.in_ok-read_piece.ensures.spends

pub returns-then-ends_line-clause-fewer : goal.returns-then-ends_line-clause-fewer
returns-then-ends_line-clause-fewer g c = omega (arith, c.in_ok-read_piece.ensures.fewer, c.pieces.invariant.fewer)

pub pieces-preserved : goal.pieces-preserved
pieces-preserved g c =
    let (bytes, eats, same) = rw c.in-More.is at c.in_ok-read_piece.ensures.piece in
    let read = g.R.Read.remaining in
    let was = c.pieces.pending.items in
    let now = c.read_piece.new.pending.items in
    record {
      reads = reads_on (read c.args.r.now.inner) (read c.pieces.r.inner) (read c.read_piece.new.r.inner) c.args.pending.now.items was now
          (λ rest. now ≡ rest) c.pieces.invariant.reads (bytes, eats, same);
      begun = still_begun c.args.limits.now was now c.split_at.result.1.now bytes c.len-begun.result c.pieces.invariant.begun same
          (omega (arith, c.len-begun.ensures, c.pieces.pending.ok)) (rw c.deref.ensures.value at c.split_at.ensures.back)
          (c.ends_line.ensures c.if-ends_line.false) (omega (arith, c.if-len-limits.false, c.len.ensures, c.read_piece.new.pending.ok));
      spends = spends_some c.args.left.now c.pieces.left c.read_piece.new.left (reads_of c.args.r.now) (reads_of c.pieces.r) (reads_of c.read_piece.new.r)
          c.pieces.invariant.spends c.in_ok-read_piece.ensures.spends;
      chunk = c.in_ok-read_piece.ensures.chunk ∙ c.pieces.invariant.chunk;
      fewer = omega (arith, c.in_ok-read_piece.ensures.fewer, c.pieces.invariant.fewer);
    }
