use Rattle.reg_search.proofs.Words.{rules, arith, [], ◌∷◌, ◌++◌, Ok, refl, subst, sym, ◌∙◌, err_from_is_err_and, state, HasCleanDisk, Error}
use Rattle.reg_search.proofs.Words.{Second, IsRead, walk_ends, walk_fails, walk_left, walked, walked_all, WALK_TEXT}
use Rattle.reg_search.proofs.Texts.{walk_is}
use Rattle.reg_search.proofs.Told.{walk_told}
use Rattle.reg_search.proofs.searching.walk.Goals as goal

pub rows_of-requires : goal.rows_of-requires
rows_of-requires g c = (Second, c.requires.ours, walk_is.plain)

pub rows-init : goal.rows-init
rows-init g c =
    let made = c.in_ok-rows.ensures in
    (refl, ([], (record { given = made.begun; same = made.same; ours = made.ours; survives = made.survives }, record { total = refl; first = search rules })))

pub returns-in_default-clause-found : goal.returns-in_default-clause-found
returns-in_default-clause-found g c clean =
    let now = c.next.follows.lender-at-none in
    let back = c.conn-in_default-1.given.1 (sym (c.next.follows.holds-at-none.same_reference ∙ c.rows.invariant.0 ∙ c.in_ok-rows.ensures.same_reference)) ∙ c.drop-rows-in_default.ensures in
    let late : HasCleanDisk (state g.S.Store now.conn.now) = subst (λ w. HasCleanDisk (state g.S.Store w)) back clean in
    let moved = c.next.follows.holds-at-none in
    let early : HasCleanDisk (state g.S.Store c.rows.rows.conn.now) = omega (arith, moved.survives.clean, late) in
    let given = c.rows.invariant.1.0 in
    let i = c.rows.invariant.1.1.0 in
    let was = rw c.in_ok-row.was at moved in
    let all = walked_all g.S.Store WALK_TEXT.now [] c.args.conn.now c.rows.rows now given i c.in_ok-row.field-0 (rw c.in_default.is refl) was late in
    let reads : IsRead {E = Error} g.S.Store (Ok (tt {0})) c.args.conn.now now.conn.now = walk_ends g.S.Store WALK_TEXT.now [] c.args.conn.now c.rows.rows now given i (tt {0}) c.in_ok-row.field-0 was in
    walk_told g.S.Store c.args.conn.now now.conn.now (tt {0}) c.requires.ours reads late c.args.needle.now c.args.hidden.now c.args.most given c.rows.hits c.rows.invariant.1.1.1 (c.rows.rows.conn.now, (i.same early).0.now_is, all)

pub rows-preserved : goal.rows-preserved
rows-preserved g c =
    let given = c.rows.invariant.1.0 in
    let moved = c.next.follows.holds-at-none in
    let was = rw (c.in_ok-row.was, c.in-Some.is) at moved in (
      moved.same_reference ∙ c.rows.invariant.0,
      (
        given ++ c.in-Some.row.now ∷ [],
        (
          walked g.S.Store WALK_TEXT.now [] c.args.conn.now c.rows.rows c.next.follows.lender-at-none given c.rows.invariant.1.1.0 c.in-Some.row was,
          c.in_ok-look_at.ensures given c.rows.invariant.1.1.1,
        ),
      ),
    )

pub returns-in_err-rows-clause-found : goal.returns-in_err-rows-clause-found
returns-in_err-rows-clause-found g c clean =
    let p = err_from_is_err_and c.from_residual.result c.from_residual.ensures.1 in
    rw p.1 tt

pub returns-in_err-row-clause-found : goal.returns-in_err-row-clause-found
returns-in_err-row-clause-found g c clean =
    let p = err_from_is_err_and c.from_residual-in_err-row.result c.from_residual-in_err-row.ensures.1 in
    rw p.1 tt

pub returns-in_err-row-clause-reads : goal.returns-in_err-row-clause-reads
returns-in_err-row-clause-reads g c =
    let p = err_from_is_err_and c.from_residual-in_err-row.result c.from_residual-in_err-row.ensures.1 in
    let now = c.next.follows.lender-at-none in
    let back = c.conn-in_err-row-1.given.1 (sym (c.next.follows.holds-at-none.same_reference ∙ c.rows.invariant.0 ∙ c.in_ok-rows.ensures.same_reference)) ∙ c.drop-rows.ensures in
    rw (p.1, back)
    (walk_fails g.S.Store WALK_TEXT.now [] c.args.conn.now c.rows.rows now c.rows.invariant.1.0 c.rows.invariant.1.1.0 c.in_err-row.field-0.0 p.0 (rw c.in_err-row.was at c.next.follows.holds-at-none))

pub returns-in_err-look_at-clause-found : goal.returns-in_err-look_at-clause-found
returns-in_err-look_at-clause-found g c clean =
    let p = err_from_is_err_and c.from_residual-in_err-look_at.result c.from_residual-in_err-look_at.ensures.1 in
    rw p.1 tt

pub returns-in_err-look_at-clause-reads : goal.returns-in_err-look_at-clause-reads
returns-in_err-look_at-clause-reads g c =
    let p = err_from_is_err_and c.from_residual-in_err-look_at.result c.from_residual-in_err-look_at.ensures.1 in
    let now = c.next.follows.lender-at-none in
    let back = c.conn-in_err-look_at-1.given.1 (sym (c.next.follows.holds-at-none.same_reference ∙ c.rows.invariant.0 ∙ c.in_ok-rows.ensures.same_reference)) ∙ c.drop-rows-in_err-look_at.ensures in
    let given = c.rows.invariant.1.0 in
    let on = walked g.S.Store WALK_TEXT.now [] c.args.conn.now c.rows.rows now given c.rows.invariant.1.1.0 c.in-Some.row (rw (c.in_ok-row.was, c.in-Some.is) at c.next.follows.holds-at-none) in
    rw (p.1, back) (walk_left g.S.Store WALK_TEXT.now [] c.args.conn.now now now (given ++ c.in-Some.row.now ∷ []) on p.0)

pub returns-in_default-clause-reads : goal.returns-in_default-clause-reads
returns-in_default-clause-reads g c =
    let now = c.next.follows.lender-at-none in
    let back = c.conn-in_default-1.given.1 (sym (c.next.follows.holds-at-none.same_reference ∙ c.rows.invariant.0 ∙ c.in_ok-rows.ensures.same_reference)) ∙ c.drop-rows-in_default.ensures in
    rw back (walk_ends g.S.Store WALK_TEXT.now [] c.args.conn.now c.rows.rows now c.rows.invariant.1.0 c.rows.invariant.1.1.0 c.rows.hits c.in_ok-row.field-0 (rw c.in_ok-row.was at c.next.follows.holds-at-none))

pub returns-clause-found : goal.returns-clause-found
returns-clause-found g c clean = tt

pub returns-clause-reads : goal.returns-clause-reads
returns-clause-reads g c =
    let back = c.conn-2-1.given.1 (sym (c.rows.invariant.0 ∙ c.in_ok-rows.ensures.same_reference)) ∙ c.drop-rows-2.ensures in
    rw back (walk_left g.S.Store WALK_TEXT.now [] c.args.conn.now c.rows.rows c.rows.rows c.rows.invariant.1.0 c.rows.invariant.1.1.0 _)
