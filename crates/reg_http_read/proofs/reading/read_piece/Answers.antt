use Rattle.std.proofs.Common.{◌≡◌, ◌∙◌, arith, refl, take}
use Rattle.std.proofs.lemmas.List.{length-append}
use Rattle.reg_http_read.proofs.Adding.{reads_nothing}
use Rattle.reg_http_read.proofs.Pieces.{piece_ended, reads_kept}
use Rattle.reg_http_read.proofs.reading.read_piece.Goals as goal

pub returns-then-left-eq0-clause-piece : goal.returns-then-left-eq0-clause-piece
returns-then-left-eq0-clause-piece g c =
    let was = c.args.pending.now.items in
    (reads_nothing (g.R.Read.remaining c.args.r.now.inner) was was (λ rest. was ≡ rest) refl, refl)

pub returns-in-Ok-eq0-clause-piece : goal.returns-in-Ok-eq0-clause-piece
returns-in-Ok-eq0-clause-piece g c =
    piece_ended (g.R.Read.remaining c.args.r.now.inner) (g.R.Read.remaining c.read.new.self.inner) c.args.pending.now.items c.in-Ok-eq0.field-0 c.read.new.buf
    c.in-Ok-eq0.field-0-test (rw c.read.auto.buf c.requires.some) c.in-Ok-eq0.ensures.bytes

pub returns-in-Ok-extend_from_slice-clause-piece : goal.returns-in-Ok-extend_from_slice-clause-piece
returns-in-Ok-extend_from_slice-clause-piece g c = (_, c.in-Ok.ensures.bytes.0, c.in-Ok-extend_from_slice.ensures.items)

pub returns-in-Err-clause-piece : goal.returns-in-Err-clause-piece
returns-in-Err-clause-piece g c =
    (reads_kept (g.R.Read.remaining c.args.r.now.inner) (g.R.Read.remaining c.read.new.self.inner) c.args.pending.now.items c.in-Err.ensures.bytes, refl)

pub returns-in-Err-extend_from_slice-clause-piece : goal.returns-in-Err-extend_from_slice-clause-piece
returns-in-Err-extend_from_slice-clause-piece g c =
    let was = c.args.pending.now.items in
    let front = take c.in-Ok.n c.read.new.buf in
    let seen = c.deref.ensures.value ∙ c.in-Err-extend_from_slice.ensures.items in
    (front, c.in-Ok.ensures.bytes.0, (omega (arith, length-append was front, c.in-Ok.ensures.bound.1, c.in-Ok.n-test), rw seen at c.begins_head.ensures))
