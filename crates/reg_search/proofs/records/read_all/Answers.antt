use Rattle.reg_search.proofs.Words.{arith, ◌≡◌, [], ◌∷◌, ◌++◌, refl, subst, sym, ◌∙◌, map, map-append, err_from_is_err_and, state}
use Rattle.reg_search.proofs.Words.{HasCleanDisk, bound, walk_ends, walk_fails, walk_left, walked, walked_all}
use Rattle.reg_tables_represent.proofs.Walking.{walked_as}
use Rattle.reg_search.proofs.records.read_all.Goals as goal

pub returns-in_default-clause-told : goal.returns-in_default-clause-told
returns-in_default-clause-told g c clean =
    let now = c.next.follows.lender-at-none in
    let back = c.conn-in_default-1.given.1 (sym (c.next.follows.holds-at-none.same_reference ∙ c.rows.invariant.0 ∙ c.in_ok-rows.ensures.same_reference)) ∙ c.drop-rows-in_default.ensures in
    let late : HasCleanDisk (state g.S.Store now.conn.now) = subst (λ w. HasCleanDisk (state g.S.Store w)) back clean in
    let moved = c.next.follows.holds-at-none in
    let early : HasCleanDisk (state g.S.Store c.rows.rows.conn.now) = omega (arith, moved.survives.clean, late) in
    let i = c.rows.invariant.1 in
    let given = map g.T.FromRow.columns c.rows.list.items in
    let all = walked_all g.S.Store c.args.text.now (bound c.args.params.now) c.args.conn.now c.rows.rows now given i c.in_ok-row.field-0 (rw c.in_default.is refl) (rw c.in_ok-row.was at moved) late in
    rw back (c.rows.rows.conn.now, (i.same early).0.now_is, all)

pub rows-preserved : goal.rows-preserved
rows-preserved g c =
    let moved = c.next.follows.holds-at-none in
    let more = map-append g.T.FromRow.columns c.rows.list.items (c.in_ok-from_row.field-0 ∷ []) in (
      moved.same_reference ∙ c.rows.invariant.0,
      rw (c.in_ok-push.ensures.items, more) (walked_as g.S.Store c.args.text.now (bound c.args.params.now) c.args.conn.now c.rows.rows c.next.follows.lender-at-none (map g.T.FromRow.columns c.rows.list.items) c.rows.invariant.1 c.in-Some.row (g.T.FromRow.columns c.in_ok-from_row.field-0) c.in_ok-from_row.ensures (rw (c.in_ok-row.was, c.in-Some.is) at moved)),
    )

pub returns-in_err-rows-clause-told : goal.returns-in_err-rows-clause-told
returns-in_err-rows-clause-told g c clean =
    let p = err_from_is_err_and c.from_residual.result c.from_residual.ensures.1 in
    rw p.1 tt

pub rows-init : goal.rows-init
rows-init g c =
    let made = c.in_ok-rows.ensures in
    (refl, rw c.new-list.ensures.items (record { given = made.begun; same = made.same; ours = made.ours; survives = made.survives }))

pub returns-in_err-row-clause-told : goal.returns-in_err-row-clause-told
returns-in_err-row-clause-told g c clean =
    let p = err_from_is_err_and c.from_residual-in_err-row.result c.from_residual-in_err-row.ensures.1 in
    rw p.1 tt

pub returns-in_err-row-clause-reads : goal.returns-in_err-row-clause-reads
returns-in_err-row-clause-reads g c =
    let p = err_from_is_err_and c.from_residual-in_err-row.result c.from_residual-in_err-row.ensures.1 in
    let now = c.next.follows.lender-at-none in
    let back = c.conn-in_err-row-1.given.1 (sym (c.next.follows.holds-at-none.same_reference ∙ c.rows.invariant.0 ∙ c.in_ok-rows.ensures.same_reference)) ∙ c.drop-rows.ensures in
    rw (p.1, back)
    (walk_fails g.S.Store c.args.text.now (bound c.args.params.now) c.args.conn.now c.rows.rows now (map g.T.FromRow.columns c.rows.list.items) c.rows.invariant.1 c.in_err-row.field-0.0 p.0 (rw c.in_err-row.was at c.next.follows.holds-at-none))

pub returns-in_default-clause-reads : goal.returns-in_default-clause-reads
returns-in_default-clause-reads g c =
    let now = c.next.follows.lender-at-none in
    let back = c.conn-in_default-1.given.1 (sym (c.next.follows.holds-at-none.same_reference ∙ c.rows.invariant.0 ∙ c.in_ok-rows.ensures.same_reference)) ∙ c.drop-rows-in_default.ensures in
    rw back (walk_ends g.S.Store c.args.text.now (bound c.args.params.now) c.args.conn.now c.rows.rows now (map g.T.FromRow.columns c.rows.list.items) c.rows.invariant.1 c.rows.list c.in_ok-row.field-0 (rw c.in_ok-row.was at c.next.follows.holds-at-none))

pub returns-in_err-from_row-clause-told : goal.returns-in_err-from_row-clause-told
returns-in_err-from_row-clause-told g c clean =
    let p = err_from_is_err_and c.from_residual-in_err-from_row.result c.from_residual-in_err-from_row.ensures.1 in
    rw p.1 tt

pub returns-in_err-from_row-clause-reads : goal.returns-in_err-from_row-clause-reads
returns-in_err-from_row-clause-reads g c =
    let p = err_from_is_err_and c.from_residual-in_err-from_row.result c.from_residual-in_err-from_row.ensures.1 in
    let now = c.next.follows.lender-at-none in
    let back = c.conn-in_err-from_row-1.given.1 (sym (c.next.follows.holds-at-none.same_reference ∙ c.rows.invariant.0 ∙ c.in_ok-rows.ensures.same_reference)) ∙ c.drop-rows-in_err-from_row.ensures in
    let given = map g.T.FromRow.columns c.rows.list.items in
    let on = walked g.S.Store c.args.text.now (bound c.args.params.now) c.args.conn.now c.rows.rows now given c.rows.invariant.1 c.in-Some.row (rw (c.in_ok-row.was, c.in-Some.is) at c.next.follows.holds-at-none) in
    rw (p.1, back) (walk_left g.S.Store c.args.text.now (bound c.args.params.now) c.args.conn.now now now (given ++ c.in-Some.row.now ∷ []) on p.0)

pub returns-in_err-push-clause-told : goal.returns-in_err-push-clause-told
returns-in_err-push-clause-told g c clean =
    let p = err_from_is_err_and c.from_residual-in_err-push.result c.from_residual-in_err-push.ensures.1 in
    rw p.1 tt

pub returns-in_err-push-clause-reads : goal.returns-in_err-push-clause-reads
returns-in_err-push-clause-reads g c =
    let p = err_from_is_err_and c.from_residual-in_err-push.result c.from_residual-in_err-push.ensures.1 in
    let now = c.next.follows.lender-at-none in
    let back = c.conn-in_err-push-1.given.1 (sym (c.next.follows.holds-at-none.same_reference ∙ c.rows.invariant.0 ∙ c.in_ok-rows.ensures.same_reference)) ∙ c.drop-rows-in_err-push.ensures in
    let given = map g.T.FromRow.columns c.rows.list.items in
    let on = walked g.S.Store c.args.text.now (bound c.args.params.now) c.args.conn.now c.rows.rows now given c.rows.invariant.1 c.in-Some.row (rw (c.in_ok-row.was, c.in-Some.is) at c.next.follows.holds-at-none) in
    rw (p.1, back) (walk_left g.S.Store c.args.text.now (bound c.args.params.now) c.args.conn.now now now (given ++ c.in-Some.row.now ∷ []) on p.0)

pub returns-clause-told : goal.returns-clause-told
returns-clause-told g c clean = tt

pub returns-clause-reads : goal.returns-clause-reads
returns-clause-reads g c =
    let back = c.conn-2-1.given.1 (sym (c.rows.invariant.0 ∙ c.in_ok-rows.ensures.same_reference)) ∙ c.drop-rows-2.ensures in
    rw back (walk_left g.S.Store c.args.text.now (bound c.args.params.now) c.args.conn.now c.rows.rows c.rows.rows (map g.T.FromRow.columns c.rows.list.items) c.rows.invariant.1 _)
