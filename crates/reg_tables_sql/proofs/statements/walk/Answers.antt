use Rattle.reg_tables_sql.proofs.Words.{[], ◌∷◌, refl, subst, sym, ◌∙◌, map, state, HasCleanDisk, bound, err_of}
use Rattle.std.proofs.lemmas.List.{map-append}
use Rattle.std.proofs.lemmas.Result.{IfOk-from_err}
use Rattle.reg_tables_sql.proofs.Walking.{leaves_as, spared, walk_ends, walk_fails, walk_left, walked, walked_all}
use Rattle.reg_tables_sql.proofs.statements.walk.Goals as goal

pub returns-in_err-rows-clause-told : goal.returns-in_err-rows-clause-told
returns-in_err-rows-clause-told g c clean = IfOk-from_err _ _ c.from_residual.ensures.0

pub returns-in_err-rows-clause-leaves : goal.returns-in_err-rows-clause-leaves
returns-in_err-rows-clause-leaves g c =
    let is = err_of c.from_residual.result c.from_residual.ensures.0 in
    let told = c.query.follows in
    rw is.1 (spared g.S.Store c.args.text.now (bound c.args.params.now) c.args.conn.now c.requires c.query.result c.in_err-rows.field-0.0 is.0 told.lender-at-none c.in_err-rows.was told.holds-at-none)

pub returns-in_err-row-clause-told : goal.returns-in_err-row-clause-told
returns-in_err-row-clause-told g c clean = IfOk-from_err _ _ c.from_residual-in_err-row.ensures.0

pub returns-in_err-row-clause-leaves : goal.returns-in_err-row-clause-leaves
returns-in_err-row-clause-leaves g c =
    let now = c.next.follows.lender-at-none in
    let same = c.next.follows.holds-at-none.same_reference ∙ c.rows.invariant.0 ∙ c.in_ok-rows.ensures.same_reference in
    let back = c.conn-in_err-row-1.given.1 (sym same) ∙ c.drop-rows.ensures in
    let is = err_of c.from_residual-in_err-row.result c.from_residual-in_err-row.ensures.0 in
    leaves_as g.S.Store c.args.text.now (bound c.args.params.now) c.args.conn.now c.requires _ _ _ _ back is.1
    (walk_fails g.S.Store c.args.text.now (bound c.args.params.now) c.args.conn.now c.requires c.rows.rows now (map g.T.FromRow.columns c.rows.list.items) c.rows.invariant.1 c.in_err-row.field-0.0 _ (rw c.in_err-row.was at c.next.follows.holds-at-none))

pub returns-in_default-clause-told : goal.returns-in_default-clause-told
returns-in_default-clause-told g c clean =
    let now = c.next.follows.lender-at-none in
    let same = c.next.follows.holds-at-none.same_reference ∙ c.rows.invariant.0 ∙ c.in_ok-rows.ensures.same_reference in
    let back = c.conn-in_default-1.given.1 (sym same) ∙ c.drop-rows-in_default.ensures in
    let late : HasCleanDisk (state g.S.Store now.conn.now) = subst (λ w. HasCleanDisk (state g.S.Store w)) back clean in
    let given = map g.T.FromRow.columns c.rows.list.items in
    let all = walked_all g.S.Store c.args.text.now (bound c.args.params.now) c.args.conn.now c.requires c.rows.rows now given c.rows.invariant.1 c.in_ok-row.field-0 (rw c.in_default.is refl) (rw c.in_ok-row.was at c.next.follows.holds-at-none) late in
    rw back all

pub returns-in_default-clause-leaves : goal.returns-in_default-clause-leaves
returns-in_default-clause-leaves g c =
    let now = c.next.follows.lender-at-none in
    let same = c.next.follows.holds-at-none.same_reference ∙ c.rows.invariant.0 ∙ c.in_ok-rows.ensures.same_reference in
    let back = c.conn-in_default-1.given.1 (sym same) ∙ c.drop-rows-in_default.ensures in
    leaves_as g.S.Store c.args.text.now (bound c.args.params.now) c.args.conn.now c.requires _ _ _ _ back refl
    (walk_ends g.S.Store c.args.text.now (bound c.args.params.now) c.args.conn.now c.requires c.rows.rows now (map g.T.FromRow.columns c.rows.list.items) c.rows.invariant.1 _ c.in_ok-row.field-0 (rw c.in_ok-row.was at c.next.follows.holds-at-none))

pub returns-in_err-from_row-clause-told : goal.returns-in_err-from_row-clause-told
returns-in_err-from_row-clause-told g c clean = IfOk-from_err _ _ c.from_residual-in_err-from_row.ensures.0

pub returns-in_err-from_row-clause-leaves : goal.returns-in_err-from_row-clause-leaves
returns-in_err-from_row-clause-leaves g c =
    let now = c.next.follows.lender-at-none in
    let same = c.next.follows.holds-at-none.same_reference ∙ c.rows.invariant.0 ∙ c.in_ok-rows.ensures.same_reference in
    let back = c.conn-in_err-from_row-1.given.1 (sym same) ∙ c.drop-rows-in_err-from_row.ensures in
    let is = err_of c.from_residual-in_err-from_row.result c.from_residual-in_err-from_row.ensures.0 in
    let more = walked g.S.Store c.args.text.now (bound c.args.params.now) c.args.conn.now c.requires c.rows.rows now (map g.T.FromRow.columns c.rows.list.items) c.rows.invariant.1
    c.in-Some.row c.in-Some.row.now refl (rw (c.in_ok-row.was, c.in-Some.is) at c.next.follows.holds-at-none) in
    leaves_as g.S.Store c.args.text.now (bound c.args.params.now) c.args.conn.now c.requires _ _ _ _ back is.1
    (walk_left g.S.Store c.args.text.now (bound c.args.params.now) c.args.conn.now c.requires now now _ more _)

pub returns-in_err-push-clause-told : goal.returns-in_err-push-clause-told
returns-in_err-push-clause-told g c clean = IfOk-from_err _ _ c.from_residual-in_err-push.ensures.0

pub returns-in_err-push-clause-leaves : goal.returns-in_err-push-clause-leaves
returns-in_err-push-clause-leaves g c =
    let now = c.next.follows.lender-at-none in
    let same = c.next.follows.holds-at-none.same_reference ∙ c.rows.invariant.0 ∙ c.in_ok-rows.ensures.same_reference in
    let back = c.conn-in_err-push-1.given.1 (sym same) ∙ c.drop-rows-in_err-push.ensures in
    let is = err_of c.from_residual-in_err-push.result c.from_residual-in_err-push.ensures.0 in
    let more = walked g.S.Store c.args.text.now (bound c.args.params.now) c.args.conn.now c.requires c.rows.rows now (map g.T.FromRow.columns c.rows.list.items) c.rows.invariant.1
    c.in-Some.row c.in-Some.row.now refl (rw (c.in_ok-row.was, c.in-Some.is) at c.next.follows.holds-at-none) in
    leaves_as g.S.Store c.args.text.now (bound c.args.params.now) c.args.conn.now c.requires _ _ _ _ back is.1
    (walk_left g.S.Store c.args.text.now (bound c.args.params.now) c.args.conn.now c.requires now now _ more _)

pub returns : goal.returns
returns g c =
    let same = c.rows.invariant.0 ∙ c.in_ok-rows.ensures.same_reference in
    let back = c.conn-2-1.given.1 (sym same) ∙ c.drop-rows-2.ensures in record {
      told = λ clean. tt;
      leaves = leaves_as g.S.Store c.args.text.now (bound c.args.params.now) c.args.conn.now c.requires _ _ _ _ back refl
          (walk_left g.S.Store c.args.text.now (bound c.args.params.now) c.args.conn.now c.requires c.rows.rows c.rows.rows (map g.T.FromRow.columns c.rows.list.items) c.rows.invariant.1 _);
    }

pub rows-preserved : goal.rows-preserved
rows-preserved g c =
    let moved = c.next.follows.holds-at-none in
    let more = map-append g.T.FromRow.columns c.rows.list.items (c.in_ok-from_row.field-0 ∷ []) in (
      moved.same_reference ∙ c.rows.invariant.0,
      rw (c.in_ok-push.ensures.items, more) (walked g.S.Store c.args.text.now (bound c.args.params.now) c.args.conn.now c.requires c.rows.rows c.next.follows.lender-at-none (map g.T.FromRow.columns c.rows.list.items) c.rows.invariant.1 c.in-Some.row (g.T.FromRow.columns c.in_ok-from_row.field-0) c.in_ok-from_row.ensures (rw (c.in_ok-row.was, c.in-Some.is) at moved)),
    )
