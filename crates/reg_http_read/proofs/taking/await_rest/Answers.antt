use Rattle.reg_http_read.proofs.Common.{arith, ap, length, ◌+◌, ◌∙◌, ◌≡◌, refl, err_from_is_err_and, reads_of}
use Rattle.reg_http_read.proofs.Adding.{reads_nothing, reads_on, spends_for, spends_nothing, spends_some}
use Rattle.reg_http_read.proofs.Waiting.{fills_ended, fills_failed, fills_whole}
use Rattle.reg_http_read.proofs.taking.await_rest.Goals as goal
use Rattle.reg_http_read.proofs.taking.await_rest.Goals.{else-missing-gt0-via-then-missing-gt0+else-is_err, else-missing-gt0-via-else-missing-gt0}

pub returns-then-is_err-clause-fills : goal.returns-then-is_err-clause-fills
returns-then-is_err-clause-fills g c =
    reads_nothing (g.R.Read.remaining c.args.r.now.inner) c.args.pending.now.items c.make_room.new.pending.items (λ rest. Unit {0}) tt

pub returns-then-is_err-clause-spends : goal.returns-then-is_err-clause-spends
returns-then-is_err-clause-spends g c = spends_nothing c.args.left.now (reads_of c.args.r.now)

pub pieces-init : goal.pieces-init
pieces-init g c =
    let same : c.else-missing-gt0.pending.items ≡ c.args.pending.now.items =
    elim c.else-missing-gt0.branch as (λ _. c.else-missing-gt0.pending.items ≡ c.args.pending.now.items) [
      | else-missing-gt0-via-then-missing-gt0+else-is_err w ↦ ap (λ v. v.items) w.pending-is ∙ w.make_room.ensures
      | else-missing-gt0-via-else-missing-gt0 w ↦ ap (λ v. v.items) w.pending-is
    ] in
    let now = c.else-missing-gt0.pending.items in
    record {
      reads = reads_nothing (g.R.Read.remaining c.args.r.now.inner) c.args.pending.now.items now (λ rest. now ≡ rest) same;
      spends = spends_nothing c.args.left.now (reads_of c.args.r.now);
      chunk = refl;
      head = omega (arith, ap length same, c.requires.head);
    }

pub returns-in_err-read_piece-clause-fills : goal.returns-in_err-read_piece-clause-fills
returns-in_err-read_piece-clause-fills g c =
    let p = err_from_is_err_and c.from_residual.result c.from_residual.ensures.1 in
    let read = g.R.Read.remaining in
    rw (p.1, p.2)
    (fills_failed (read c.args.r.now.inner) (read c.pieces.r.inner) (read c.read_piece.new.r.inner) c.args.pending.now.items c.pieces.pending.items c.read_piece.new.pending.items
    c.pieces.invariant.reads _ (omega arith) c.in_err-read_piece.field-0.0 c.in_err-read_piece.ensures.piece)

pub returns-in_err-read_piece-clause-spends : goal.returns-in_err-read_piece-clause-spends
returns-in_err-read_piece-clause-spends g c =
    let p = err_from_is_err_and c.from_residual.result c.from_residual.ensures.1 in
    rw (p.1, p.2)
    (spends_for c.args.left.now c.pieces.left c.read_piece.new.left (reads_of c.args.r.now) (reads_of c.pieces.r) (reads_of c.read_piece.new.r)
    c.pieces.invariant.spends c.in_err-read_piece.field-0.0 c.in_err-read_piece.ensures.spends)

pub pieces-preserved : goal.pieces-preserved
pieces-preserved g c =
    let read = g.R.Read.remaining in
    let now = c.read_piece.new.pending.items in
    record {
      reads = reads_on (read c.args.r.now.inner) (read c.pieces.r.inner) (read c.read_piece.new.r.inner) c.args.pending.now.items c.pieces.pending.items now
          (λ rest. now ≡ rest) c.pieces.invariant.reads (rw c.in-More.is at c.in_ok-read_piece.ensures.piece);
      spends = spends_some c.args.left.now c.pieces.left c.read_piece.new.left (reads_of c.args.r.now) (reads_of c.pieces.r) (reads_of c.read_piece.new.r)
          c.pieces.invariant.spends c.in_ok-read_piece.ensures.spends;
      chunk = c.in_ok-read_piece.ensures.chunk ∙ c.pieces.invariant.chunk;
      head = omega (arith, c.in_ok-read_piece.ensures.grows, c.pieces.invariant.head);
    }

pub returns-in-End-clause-fills : goal.returns-in-End-clause-fills
returns-in-End-clause-fills g c =
    let read = g.R.Read.remaining in
    fills_ended (read c.args.r.now.inner) (read c.pieces.r.inner) (read c.read_piece.new.r.inner) c.args.pending.now.items c.pieces.pending.items c.read_piece.new.pending.items
    c.pieces.invariant.reads _ (omega arith) (rw c.in-End.is at c.in_ok-read_piece.ensures.piece)

pub returns-in-End-clause-spends : goal.returns-in-End-clause-spends
returns-in-End-clause-spends g c =
    spends_some c.args.left.now c.pieces.left c.read_piece.new.left (reads_of c.args.r.now) (reads_of c.pieces.r) (reads_of c.read_piece.new.r)
    c.pieces.invariant.spends c.in_ok-read_piece.ensures.spends

pub returns-in-NoMemory-clause-fills : goal.returns-in-NoMemory-clause-fills
returns-in-NoMemory-clause-fills g c =
    let p = rw c.in-NoMemory.is at c.in_ok-read_piece.ensures.piece in
    let read = g.R.Read.remaining in
    reads_on (read c.args.r.now.inner) (read c.pieces.r.inner) (read c.read_piece.new.r.inner) c.args.pending.now.items c.pieces.pending.items c.read_piece.new.pending.items
    (λ rest. Unit {0}) c.pieces.invariant.reads (p.0, p.1, tt)

pub returns-in-NoMemory-clause-spends : goal.returns-in-NoMemory-clause-spends
returns-in-NoMemory-clause-spends g c =
    spends_some c.args.left.now c.pieces.left c.read_piece.new.left (reads_of c.args.r.now) (reads_of c.pieces.r) (reads_of c.read_piece.new.r)
    c.pieces.invariant.spends c.in_ok-read_piece.ensures.spends

pub returns-clause-fills : goal.returns-clause-fills
returns-clause-fills g c =
    fills_whole (g.R.Read.remaining c.args.r.now.inner) (g.R.Read.remaining c.pieces.r.inner) c.args.pending.now.items c.pieces.pending.items
    c.pieces.invariant.reads (c.args.len + c.args.body_len) (omega (arith, c.len-in-pieces.ensures, c.pieces-test.false, c.pieces.invariant.head))
