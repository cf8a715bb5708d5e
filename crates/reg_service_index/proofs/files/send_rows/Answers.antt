use Rattle.reg_service_index.proofs.Words.{arith, Bool, ◌∙◌, ◌+◌, [], ◌∷◌, ◌++◌, ap, refl, sym, inl, inr, pos, err_from_is_err_and, state}
use Rattle.reg_service_index.proofs.Words.{HasCleanDisk, Int, Text, entries_text, entry_row, walk_ends}
use Rattle.std.proofs.lemmas.List.{length_push}
use Rattle.reg_tables_represent.proofs.IndexWalk.{entries_read}
use Rattle.reg_tables_represent.proofs.Walking.{walk_fails, walk_left, walked_all, walked_as, was_spared}
use Rattle.reg_service_index.proofs.Left.{left_after}
use Rattle.reg_service_index.proofs.Rows.{end_stopped, head_put, head_stopped, rows_all, rows_broken, rows_more, rows_none, rows_stopped}
use Rattle.reg_service_index.proofs.Unsent.{writer_fault}
use Rattle.reg_service_index.proofs.files.send_rows.Goals as goal

pub returns-in_err-rows-clause-rows : goal.returns-in_err-rows-clause-rows
returns-in_err-rows-clause-rows g c =
    let p = err_from_is_err_and c.from_residual.result c.from_residual.ensures.1 in
    rw (p.1, p.2) (rows_none g.S.Store c.args.conn.now c.args.crate_id c.requires.ours c.args.front.now c.args.writes _ _)

pub returns-in_err-used-clause-rows : goal.returns-in_err-used-clause-rows
returns-in_err-used-clause-rows g c =
    let p = err_from_is_err_and c.from_residual-in_err-used.result c.from_residual-in_err-used.ensures.1 in
    let back = c.conn-in_err-used-1.given.1 (sym c.in_ok-rows.ensures.same_reference) ∙ c.drop-rows.ensures in
    let made = c.in_ok-rows.ensures in
    rw (p.1, p.2, back)
    (head_stopped g.S.Store c.args.conn.now c.args.crate_id c.requires.ours c.args.front.now c.args.writes _ c.in_err-used.field-0.0 _ c.in_ok-rows.rows.conn.now
    (record { given = made.begun; same = made.same; ours = made.ours; survives = made.survives }) (rw c.new-pile.ensures at c.in_err-used.ensures))

pub returns-in_err-row-clause-rows : goal.returns-in_err-row-clause-rows
returns-in_err-row-clause-rows g c =
    let p = err_from_is_err_and c.from_residual-in_err-row.result c.from_residual-in_err-row.ensures.1 in
    let now = c.next.follows.lender-at-none in
    let back = c.conn-in_err-row-1.given.1 (sym (c.next.follows.holds-at-none.same_reference ∙ c.rows.invariant.same_reference ∙ c.in_ok-rows.ensures.same_reference)) ∙ c.drop-rows-in_err-row.ensures in
    let i = c.rows.invariant.walked in
    rw (p.1, p.2, back)
    (rows_broken g.S.Store c.args.conn.now c.args.crate_id c.requires.ours c.args.front.now c.args.writes _ _ c.rows.used c.rows.rows.conn.now c.rows.pile i.0 i.2 i.3 now.conn.now (λ late. omega (arith, c.next.follows.holds-at-none.survives.clean, late)))

pub returns-in_err-last-clause-rows : goal.returns-in_err-last-clause-rows
returns-in_err-last-clause-rows g c =
    let p = err_from_is_err_and c.from_residual-in_err-last.result c.from_residual-in_err-last.ensures.1 in
    let now = c.next.follows.lender-at-none in
    let back = c.conn-in_err-last-1.given.1 (sym (c.next.follows.holds-at-none.same_reference ∙ c.rows.invariant.same_reference ∙ c.in_ok-rows.ensures.same_reference)) ∙ c.drop-rows-in_err-last.ensures in
    let i = c.rows.invariant.walked in
    rw (p.1, p.2, back)
    (end_stopped g.S.Store c.args.conn.now c.args.crate_id c.requires.ours c.args.front.now c.args.writes _ _ c.rows.used c.rows.rows.conn.now c.rows.pile i.0 i.2 i.3 c.in_err-last.field-0.0 _ now.conn.now (λ late. omega (arith, c.next.follows.holds-at-none.survives.clean, late)) c.in_err-last.ensures.sends)

pub returns-in_default-clause-rows : goal.returns-in_default-clause-rows
returns-in_default-clause-rows g c =
    let now = c.next.follows.lender-at-none in
    let back = c.conn-in_default-1.given.1 (sym (c.next.follows.holds-at-none.same_reference ∙ c.rows.invariant.same_reference ∙ c.in_ok-rows.ensures.same_reference)) ∙ c.drop-rows-in_default.ensures in
    let i = c.rows.invariant.walked in
    let moved = c.next.follows.holds-at-none in
    let before = λ (late : HasCleanDisk (state g.S.Store now.conn.now)). let early : HasCleanDisk (state g.S.Store c.rows.rows.conn.now) = omega (arith, moved.survives.clean, late) in early in
    let all = λ (late : HasCleanDisk (state g.S.Store now.conn.now)). walked_all g.S.Store entries_text (Int (pos c.args.crate_id) ∷ []) c.args.conn.now c.rows.rows now i.0 i.2 c.in_ok-row.field-0 (rw c.in_default.is refl) (rw c.in_ok-row.was at moved) late in
    let are = λ (late : HasCleanDisk (state g.S.Store now.conn.now)). entries_read g.S.Store c.args.conn.now c.rows.rows.conn.now c.args.crate_id i.0 c.requires.ours (before late) i.2 (state g.S.Store now.conn.now) (all late) in
    rw back
    (rows_all g.S.Store c.args.conn.now c.args.crate_id c.requires.ours c.args.front.now c.args.writes _ _ c.rows.used c.rows.rows.conn.now c.rows.pile i.0 i.2 i.3 _ c.in_ok-last.last now.conn.now are before c.in_ok-last.ensures.sends)

pub returns-in_default-entry_of-clause-rows : goal.returns-in_default-entry_of-clause-rows
returns-in_default-entry_of-clause-rows g c =
    let now = c.next.follows.lender-at-none in
    let back = c.conn-in_default-entry_of-1.given.1 (sym (c.next.follows.holds-at-none.same_reference ∙ c.rows.invariant.same_reference ∙ c.in_ok-rows.ensures.same_reference)) ∙ c.drop-rows-in_default-entry_of.ensures in
    let i = c.rows.invariant.walked in
    rw back
    (rows_broken g.S.Store c.args.conn.now c.args.crate_id c.requires.ours c.args.front.now c.args.writes _ _ c.rows.used c.rows.rows.conn.now c.rows.pile i.0 i.2 i.3 now.conn.now (λ late. omega (arith, c.next.follows.holds-at-none.survives.clean, late)))

pub returns-in_err-more-clause-rows : goal.returns-in_err-more-clause-rows
returns-in_err-more-clause-rows g c =
    let p = err_from_is_err_and c.from_residual-in_err-more.result c.from_residual-in_err-more.ensures.1 in
    let now = c.next.follows.lender-at-none in
    let back = c.conn-in_err-more-1.given.1 (sym (c.next.follows.holds-at-none.same_reference ∙ c.rows.invariant.same_reference ∙ c.in_ok-rows.ensures.same_reference)) ∙ c.drop-rows-in_err-more.ensures in
    let i = c.rows.invariant.walked in
    let entry = c.in-Some-entry_of.entry in
    let it : Text × Bool = (entry.stem.now, entry.yanked) in
    let on = walked_as g.S.Store entries_text (Int (pos c.args.crate_id) ∷ []) c.args.conn.now c.rows.rows now i.0 i.2 c.in-Some.row (entry_row it) c.in-Some-entry_of.ensures (rw (c.in_ok-row.was, c.in-Some.is) at c.next.follows.holds-at-none) in
    rw (p.1, p.2, back)
    (rows_stopped g.S.Store c.args.conn.now c.args.crate_id c.requires.ours c.args.front.now c.args.writes _ _ c.rows.used c.rows.rows.conn.now c.rows.pile i.0 i.2 i.3 c.in_err-more.field-0.0 it _ now.conn.now c.in_err-more.ensures on)

pub rows-init : goal.rows-init
rows-init g c =
    let made = c.in_ok-rows.ensures in
    record {
      same_reference = refl;
      walked = (
        [],
        refl,
        record { given = made.begun; same = made.same; ours = made.ours; survives = made.survives },
        head_put g.S.Store c.args.conn.now c.args.crate_id c.requires.ours c.args.front.now c.args.writes _ _ c.in_ok-used.used c.put.new.self (rw c.new-pile.ensures at c.in_ok-used.ensures),
      );
    }

pub rows-preserved : goal.rows-preserved
rows-preserved g c =
    let now = c.next.follows.lender-at-none in
    let moved = c.next.follows.holds-at-none in
    let i = c.rows.invariant.walked in
    let entry = c.in-Some-entry_of.entry in
    let it : Text × Bool = (entry.stem.now, entry.yanked) in
    let on = walked_as g.S.Store entries_text (Int (pos c.args.crate_id) ∷ []) c.args.conn.now c.rows.rows now i.0 i.2 c.in-Some.row (entry_row it) c.in-Some-entry_of.ensures (rw (c.in_ok-row.was, c.in-Some.is) at moved) in
    record {
      same_reference = moved.same_reference ∙ c.rows.invariant.same_reference;
      walked = (
        i.0 ++ entry_row it ∷ [],
        length_push i.0 (entry_row it) ∙ ap (λ n. n + 1) i.1,
        on,
        rows_more g.S.Store c.args.conn.now c.args.crate_id c.requires.ours c.args.front.now c.args.writes _ _ c.rows.used c.rows.rows.conn.now c.rows.pile i.0 i.2 i.3 it _ c.in_ok-more.more c.put_line.new.pile c.in_ok-more.ensures,
      );
    }

pub returns-clause-rows : goal.returns-clause-rows
returns-clause-rows g c =
    let back = c.conn-2-1.given.1 (sym (c.rows.invariant.same_reference ∙ c.in_ok-rows.ensures.same_reference)) ∙ c.drop-rows-2.ensures in
    let i = c.rows.invariant.walked in
    rw back
    (rows_broken g.S.Store c.args.conn.now c.args.crate_id c.requires.ours c.args.front.now c.args.writes _ _ c.rows.used c.rows.rows.conn.now c.rows.pile i.0 i.2 i.3 c.rows.rows.conn.now (λ late. late))

-- why no further row is sent

pub returns-in_err-used-clause-ends : goal.returns-in_err-used-clause-ends
returns-in_err-used-clause-ends g c =
    let p = err_from_is_err_and c.from_residual-in_err-used.result c.from_residual-in_err-used.ensures.1 in
    rw (p.1, p.2) (λ e. absurd (writer_fault c.in_err-used.field-0.0 e))

pub returns-in_err-last-clause-ends : goal.returns-in_err-last-clause-ends
returns-in_err-last-clause-ends g c =
    let p = err_from_is_err_and c.from_residual-in_err-last.result c.from_residual-in_err-last.ensures.1 in
    rw (p.1, p.2) (λ e. absurd (writer_fault c.in_err-last.field-0.0 e))

pub returns-in_err-more-clause-ends : goal.returns-in_err-more-clause-ends
returns-in_err-more-clause-ends g c =
    let p = err_from_is_err_and c.from_residual-in_err-more.result c.from_residual-in_err-more.ensures.1 in
    rw (p.1, p.2) (λ e. absurd (writer_fault c.in_err-more.field-0.0 e))

pub returns-in_err-row-clause-ends : goal.returns-in_err-row-clause-ends
returns-in_err-row-clause-ends g c =
    let now = c.next.follows.lender-at-none in
    let back = c.conn-in_err-row-1.given.1 (sym (c.next.follows.holds-at-none.same_reference ∙ c.rows.invariant.same_reference ∙ c.in_ok-rows.ensures.same_reference)) ∙ c.drop-rows-in_err-row.ensures in
    let moved = rw c.in_err-row.was at c.next.follows.holds-at-none in
    rw back (λ e. inr (inl moved.ends))

pub returns-in_default-entry_of-clause-ends : goal.returns-in_default-entry_of-clause-ends
returns-in_default-entry_of-clause-ends g c =
    let now = c.next.follows.lender-at-none in
    let back = c.conn-in_default-entry_of-1.given.1 (sym (c.next.follows.holds-at-none.same_reference ∙ c.rows.invariant.same_reference ∙ c.in_ok-rows.ensures.same_reference)) ∙ c.drop-rows-in_default-entry_of.ensures in
    let moved = rw (c.in_ok-row.was, c.in-Some.is) at c.next.follows.holds-at-none in
    let i = c.rows.invariant.walked in
    let row = c.in-Some.row.now in
    let on = walked_as g.S.Store entries_text (Int (pos c.args.crate_id) ∷ []) c.args.conn.now c.rows.rows now i.0 i.2 c.in-Some.row row refl moved in
    let other = rw c.in_default-entry_of.is at c.entry_of.ensures in
    rw back (λ e. inr (inr (i.0 ++ row ∷ [], on.given, inl (i.0, row, refl, other))))

pub returns-clause-ends : goal.returns-clause-ends
returns-clause-ends g c =
    let back = c.conn-2-1.given.1 (sym (c.rows.invariant.same_reference ∙ c.in_ok-rows.ensures.same_reference)) ∙ c.drop-rows-2.ensures in
    let i = c.rows.invariant.walked in
    rw back (λ e. inr (inr (i.0, i.2.given, inr (omega (arith, i.1)))))

pub returns-in_err-rows-clause-ends : goal.returns-in_err-rows-clause-ends
returns-in_err-rows-clause-ends g c e = inl refl

pub returns-in_default-clause-ends : goal.returns-in_default-clause-ends
returns-in_default-clause-ends g c e = absurd cc

-- what is left of the connection

pub returns-in_err-rows-clause-reads : goal.returns-in_err-rows-clause-reads
returns-in_err-rows-clause-reads g c =
    let p = err_from_is_err_and c.from_residual.result c.from_residual.ensures.1 in
    rw (p.1, p.2) (was_spared g.S.Store _ c.args.conn.now c.index_rows.follows.lender-at-none (rw c.in_err-rows.was at c.index_rows.follows.holds-at-none))

pub returns-in_err-used-clause-reads : goal.returns-in_err-used-clause-reads
returns-in_err-used-clause-reads g c =
    let p = err_from_is_err_and c.from_residual-in_err-used.result c.from_residual-in_err-used.ensures.1 in
    let back = c.conn-in_err-used-1.given.1 (sym c.in_ok-rows.ensures.same_reference) ∙ c.drop-rows.ensures in
    let made = c.in_ok-rows.ensures in
    rw (p.1, p.2, back)
    (walk_left g.S.Store entries_text (Int (pos c.args.crate_id) ∷ []) c.args.conn.now c.in_ok-rows.rows c.in_ok-rows.rows []
    (record { given = made.begun; same = made.same; ours = made.ours; survives = made.survives }) _)

pub returns-in_err-row-clause-reads : goal.returns-in_err-row-clause-reads
returns-in_err-row-clause-reads g c =
    let p = err_from_is_err_and c.from_residual-in_err-row.result c.from_residual-in_err-row.ensures.1 in
    let now = c.next.follows.lender-at-none in
    let back = c.conn-in_err-row-1.given.1 (sym (c.next.follows.holds-at-none.same_reference ∙ c.rows.invariant.same_reference ∙ c.in_ok-rows.ensures.same_reference)) ∙ c.drop-rows-in_err-row.ensures in
    let i = c.rows.invariant.walked in
    rw (p.1, p.2, back)
    (walk_fails g.S.Store entries_text (Int (pos c.args.crate_id) ∷ []) c.args.conn.now c.rows.rows now i.0 i.2 _ _ (rw c.in_err-row.was at c.next.follows.holds-at-none))

pub returns-in_err-last-clause-reads : goal.returns-in_err-last-clause-reads
returns-in_err-last-clause-reads g c =
    let p = err_from_is_err_and c.from_residual-in_err-last.result c.from_residual-in_err-last.ensures.1 in
    let now = c.next.follows.lender-at-none in
    let back = c.conn-in_err-last-1.given.1 (sym (c.next.follows.holds-at-none.same_reference ∙ c.rows.invariant.same_reference ∙ c.in_ok-rows.ensures.same_reference)) ∙ c.drop-rows-in_err-last.ensures in
    let i = c.rows.invariant.walked in
    rw (p.1, p.2, back)
    (left_after g.S.Store entries_text (Int (pos c.args.crate_id) ∷ []) c.args.conn.now c.rows.rows now i.0 i.2 _ (rw c.in_ok-row.was at c.next.follows.holds-at-none) _)

pub returns-in_default-clause-reads : goal.returns-in_default-clause-reads
returns-in_default-clause-reads g c =
    let now = c.next.follows.lender-at-none in
    let back = c.conn-in_default-1.given.1 (sym (c.next.follows.holds-at-none.same_reference ∙ c.rows.invariant.same_reference ∙ c.in_ok-rows.ensures.same_reference)) ∙ c.drop-rows-in_default.ensures in
    let i = c.rows.invariant.walked in
    rw back (walk_ends g.S.Store entries_text (Int (pos c.args.crate_id) ∷ []) c.args.conn.now c.rows.rows now i.0 i.2 _ _ (rw c.in_ok-row.was at c.next.follows.holds-at-none))

pub returns-in_default-entry_of-clause-reads : goal.returns-in_default-entry_of-clause-reads
returns-in_default-entry_of-clause-reads g c =
    let now = c.next.follows.lender-at-none in
    let back = c.conn-in_default-entry_of-1.given.1 (sym (c.next.follows.holds-at-none.same_reference ∙ c.rows.invariant.same_reference ∙ c.in_ok-rows.ensures.same_reference)) ∙ c.drop-rows-in_default-entry_of.ensures in
    let i = c.rows.invariant.walked in
    rw back (left_after g.S.Store entries_text (Int (pos c.args.crate_id) ∷ []) c.args.conn.now c.rows.rows now i.0 i.2 _ (rw c.in_ok-row.was at c.next.follows.holds-at-none) _)

pub returns-in_err-more-clause-reads : goal.returns-in_err-more-clause-reads
returns-in_err-more-clause-reads g c =
    let p = err_from_is_err_and c.from_residual-in_err-more.result c.from_residual-in_err-more.ensures.1 in
    let now = c.next.follows.lender-at-none in
    let back = c.conn-in_err-more-1.given.1 (sym (c.next.follows.holds-at-none.same_reference ∙ c.rows.invariant.same_reference ∙ c.in_ok-rows.ensures.same_reference)) ∙ c.drop-rows-in_err-more.ensures in
    let i = c.rows.invariant.walked in
    rw (p.1, p.2, back)
    (left_after g.S.Store entries_text (Int (pos c.args.crate_id) ∷ []) c.args.conn.now c.rows.rows now i.0 i.2 _ (rw c.in_ok-row.was at c.next.follows.holds-at-none) _)

pub returns-clause-reads : goal.returns-clause-reads
returns-clause-reads g c =
    let back = c.conn-2-1.given.1 (sym (c.rows.invariant.same_reference ∙ c.in_ok-rows.ensures.same_reference)) ∙ c.drop-rows-2.ensures in
    let i = c.rows.invariant.walked in
    rw back (walk_left g.S.Store entries_text (Int (pos c.args.crate_id) ∷ []) c.args.conn.now c.rows.rows c.rows.rows i.0 i.2 _)
