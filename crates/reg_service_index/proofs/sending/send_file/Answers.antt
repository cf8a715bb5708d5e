use Rattle.reg_service_index.proofs.Words.{◌∙◌, inl, inr, sym, rows_text}
use Rattle.reg_service_index.proofs.Unsent.{broken_at, file_sent, no_room_then, rows_some, some_then, unsent, was_begun}
use Rattle.reg_service_index.proofs.sending.send_file.Goals as goal

pub returns-then-is_unsent-clause-sends : goal.returns-then-is_unsent-clause-sends
returns-then-is_unsent-clause-sends g c clean =
    let rows = c.send_over-sent.ensures.rows in
    let none = c.if-is_unsent.ensures in
    let text = rows_text c.as_bytes.result.now rows.rows in
    let broken = broken_at c.send_over-sent.result text c.args.writes _ _ none.0 rows.sends in
    let same = unsent text c.args.writes _ _ broken (sym c.calls.ensures ∙ none.1 ∙ c.calls-before.ensures) in
    inl (no_room_then c.args.close c.send_no_room-then-is_unsent.result c.args.writes _ _ _ same c.send_no_room-then-is_unsent.ensures.refuses)

pub returns-then-is_unsent-clause-some : goal.returns-then-is_unsent-clause-some
returns-then-is_unsent-clause-some g c =
    let rows = c.send_over-sent.ensures.rows in
    let none = c.if-is_unsent.ensures in
    let text = rows_text c.as_bytes.result.now rows.rows in
    let broken = broken_at c.send_over-sent.result text c.args.writes _ _ none.0 rows.sends in
    let same = unsent text c.args.writes _ _ broken (sym c.calls.ensures ∙ none.1 ∙ c.calls-before.ensures) in
    some_then c.send_no_room-then-is_unsent.result c.args.writes _ _ _ same c.send_no_room-then-is_unsent.ensures.some

pub returns-then-is_unsent-clause-begun : goal.returns-then-is_unsent-clause-begun
returns-then-is_unsent-clause-begun g c e = absurd (c.send_no_room-then-is_unsent.ensures.refuses.never e)

pub returns-clause-sends : goal.returns-clause-sends
returns-clause-sends g c clean =
    let rows = rw (c.as_bytes.ensures ∙ c.reply_head-head.ensures) at c.send_over-sent.ensures.rows in
    inr (file_sent g.S.Store c.args.file.now c.args.close c.args.writes c.args.tables.now _ _ c.send_over-sent.result _ rows clean
    (λ u. c.if-is_unsent.ensures (u.0, c.calls.ensures ∙ u.1 ∙ sym c.calls-before.ensures)))

pub returns-clause-some : goal.returns-clause-some
returns-clause-some g c =
    let rows = rw (c.as_bytes.ensures ∙ c.reply_head-head.ensures) at c.send_over-sent.ensures.rows in
    rows_some c.args.file.now c.args.close c.send_over-sent.result c.args.writes rows.rows _ _ rows.sends

-- tables that have stopped

pub returns-then-is_stopped-clause-sends : goal.returns-then-is_stopped-clause-sends
returns-then-is_stopped-clause-sends g c clean = inl c.send_no_room.ensures.refuses

pub returns-then-is_stopped-clause-begun : goal.returns-then-is_stopped-clause-begun
returns-then-is_stopped-clause-begun g c e = absurd (c.send_no_room.ensures.refuses.never e)

pub returns-then-is_stopped-clause-ends : goal.returns-then-is_stopped-clause-ends
returns-then-is_stopped-clause-ends g c e = absurd (c.send_no_room.ensures.refuses.never e)

pub returns-then-is_stopped-clause-stopped : goal.returns-then-is_stopped-clause-stopped
returns-then-is_stopped-clause-stopped g c e = c.send_no_room.ensures.refuses

pub returns-then-is_unsent-clause-ends : goal.returns-then-is_unsent-clause-ends
returns-then-is_unsent-clause-ends g c e = absurd (c.send_no_room-then-is_unsent.ensures.refuses.never e)

pub returns-clause-begun : goal.returns-clause-begun
returns-clause-begun g c e =
    let rows = c.send_over-sent.ensures.rows in
    let text = rows_text c.as_bytes.result.now rows.rows in
    was_begun text c.args.writes _ _ (broken_at c.send_over-sent.result text c.args.writes _ _ e rows.sends)
    (λ u. c.if-is_unsent.ensures (e, c.calls.ensures ∙ u ∙ sym c.calls-before.ensures))
