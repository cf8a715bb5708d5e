use Rattle.std.proofs.Common.{◌≡◌, ◌<◌, ◌++◌, [], Result, Ok, Err, ap, sym, arith, length, ◌∙◌, take-append-drop}
use Rattle.std.proofs.lemmas.Result.{err_from_is_err_and}
use Rattle.std.specs.Result.{IsOk, OnOk}
use Rattle.reg_api_replies.proofs.Joined.{piles_last, stopped_behind, stopped_first}
use Rattle.reg_api_replies.proofs.pile.WriteBuffer.put.Goals as goal

on_ok : {T E : Type 0} (r : Result T E) (P : Type 0) → IsOk r → OnOk r P → P
on_ok (Ok u) P is h = h
on_ok (Err e) P is h = absurd cc

pub returns-in_err-more : goal.returns-in_err-more
returns-in_err-more g c =
    let p = err_from_is_err_and c.from_residual-in_err-more.result c.from_residual-in_err-more.ensures.1 in
    let whole : c.split_at.result.0.now ++ c.split_at.result.1.now ≡ c.args.text.now =
    rw (c.split_at.ensures.front, c.split_at.ensures.back) (take-append-drop c.saturating_sub.result c.args.text.now) in
    let front = stopped_first c.in_err-more.field-0.0 c.split_at.result.0.now c.split_at.result.1.now _ _ _ c.in_err-more.ensures in
    rw (p.1, p.2)
    (stopped_behind c.in_err-more.field-0.0 c.args.self.now c.args.text.now c.args.writes c.in_ok-used.used _ _ _ c.in_ok-used.ensures.sends
    (rw whole at front))

pub returns : goal.returns
returns g c =
    let whole : c.split_at.result.0.now ++ c.split_at.result.1.now ≡ c.args.text.now =
    rw (c.split_at.ensures.front, c.split_at.ensures.back) (take-append-drop c.saturating_sub.result c.args.text.now) in
    let some : 0 < length c.split_at.result.1.now =
    omega (arith, c.if-text-remaining_capacity.false, c.remaining_capacity.ensures, c.saturating_sub.ensures, c.split_at.ensures.back_len) in
    let fits = c.try_extend_from_slice-fits-2.ensures in
    let none : c.self-2.inside.bytes.items ≡ [] = c.self-2.view_is ∙ c.in_ok-used.ensures.none in
    let kept = on_ok c.try_extend_from_slice-fits-2.result _
    (fits.variant.1 (omega (arith, ap length none, c.saturating_sub.ensures, c.split_at.ensures.back_len))) fits.ok in
    rw (kept, none)
    (piles_last c.args.self.now c.args.text.now c.split_at.result.0.now c.split_at.result.1.now c.args.writes c.in_ok-used.used c.in_ok-more.more _ _ _
    (sym whole) some c.in_ok-used.ensures.sends c.in_ok-more.ensures)
