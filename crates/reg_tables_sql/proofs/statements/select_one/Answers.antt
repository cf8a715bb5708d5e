use Rattle.reg_tables_sql.proofs.Words.{[], ◌∷◌, refl, sym, ◌∙◌, bound, err_of}
use Rattle.reg_tables_sql.proofs.Walking.{begins, spared, walked, reads_all, reads_failed, reads_left, reads_none}
use Rattle.reg_tables_sql.proofs.statements.select_one.Goals as goal

pub returns-in_err-rows : goal.returns-in_err-rows
returns-in_err-rows g c =
    let is = err_of c.from_residual.result c.from_residual.ensures.0 in
    let told = c.query.follows in
    rw is.1 (reads_none _ _ _ _ (spared g.S.Store c.args.text.now (bound c.args.params.now) c.args.conn.now c.requires c.query.result c.in_err-rows.field-0.0 is.0 told.lender-at-none c.in_err-rows.was told.holds-at-none))

pub returns-in_err-row : goal.returns-in_err-row
returns-in_err-row g c =
    let it = begins g.S.Store c.args.text.now (bound c.args.params.now) c.args.conn.now c.requires c.in_ok-rows.rows.conn.now c.in_ok-rows.ensures.begun c.in_ok-rows.ensures.survives in
    let now = c.next.follows.lender-at-none in
    let back = c.conn-in_err-row-1.given.1 (sym (c.next.follows.holds-at-none.same_reference ∙ c.in_ok-rows.ensures.same_reference)) ∙ c.drop-rows.ensures in
    let is = err_of c.from_residual-in_err-row.result c.from_residual-in_err-row.ensures.0 in
    rw (back, is.1) (reads_failed g.S.Store c.args.text.now (bound c.args.params.now) c.args.conn.now c.requires c.in_ok-rows.rows now [] it _ c.in_err-row.field-0.0 _ (rw c.in_err-row.was at c.next.follows.holds-at-none))

pub returns-in_default : goal.returns-in_default
returns-in_default g c =
    let it = begins g.S.Store c.args.text.now (bound c.args.params.now) c.args.conn.now c.requires c.in_ok-rows.rows.conn.now c.in_ok-rows.ensures.begun c.in_ok-rows.ensures.survives in
    let now = c.next.follows.lender-at-none in
    let back = c.conn-in_default-1.given.1 (sym (c.next.follows.holds-at-none.same_reference ∙ c.in_ok-rows.ensures.same_reference)) ∙ c.drop-rows-in_default.ensures in
    rw back (reads_all g.S.Store c.args.text.now (bound c.args.params.now) c.args.conn.now c.requires c.in_ok-rows.rows now [] it _ _ (λ h. h) c.in_ok-row.field-0 (rw c.in_default.is refl) (rw c.in_ok-row.was at c.next.follows.holds-at-none))

pub returns-in_err-found : goal.returns-in_err-found
returns-in_err-found g c =
    let it = begins g.S.Store c.args.text.now (bound c.args.params.now) c.args.conn.now c.requires c.in_ok-rows.rows.conn.now c.in_ok-rows.ensures.begun c.in_ok-rows.ensures.survives in
    let now = c.next.follows.lender-at-none in
    let one = walked g.S.Store c.args.text.now (bound c.args.params.now) c.args.conn.now c.requires c.in_ok-rows.rows now [] it c.in-Some.row c.in-Some.row.now refl (rw (c.in_ok-row.was, c.in-Some.is) at c.next.follows.holds-at-none) in
    let back = c.conn-in_err-found-1.given.1 (sym (c.next.follows.holds-at-none.same_reference ∙ c.in_ok-rows.ensures.same_reference)) ∙ c.drop-rows-in_err-found.ensures in
    let is = err_of c.from_residual-in_err-found.result c.from_residual-in_err-found.ensures.0 in
    rw (back, is.1) (reads_left g.S.Store c.args.text.now (bound c.args.params.now) c.args.conn.now c.requires now now (c.in-Some.row.now ∷ []) one _ _)

pub returns-in_err-next : goal.returns-in_err-next
returns-in_err-next g c =
    let it = begins g.S.Store c.args.text.now (bound c.args.params.now) c.args.conn.now c.requires c.in_ok-rows.rows.conn.now c.in_ok-rows.ensures.begun c.in_ok-rows.ensures.survives in
    let now = c.next.follows.lender-at-none in
    let columns = g.T.FromRow.columns c.in_ok-found.found in
    let one = walked g.S.Store c.args.text.now (bound c.args.params.now) c.args.conn.now c.requires c.in_ok-rows.rows now [] it c.in-Some.row columns c.in_ok-found.ensures (rw (c.in_ok-row.was, c.in-Some.is) at c.next.follows.holds-at-none) in
    let last = c.next-2.follows.lender-at-none in
    let back = c.conn-in_err-next-1.given.1 (sym (c.next-2.follows.holds-at-none.same_reference ∙ c.next.follows.holds-at-none.same_reference ∙ c.in_ok-rows.ensures.same_reference)) ∙ c.drop-rows-in_err-next.ensures in
    let is = err_of c.from_residual-in_err-next.result c.from_residual-in_err-next.ensures.0 in
    rw (back, is.1) (reads_failed g.S.Store c.args.text.now (bound c.args.params.now) c.args.conn.now c.requires now last (columns ∷ []) one _ c.in_err-next.field-0.0 _ (rw c.in_err-next.was at c.next-2.follows.holds-at-none))

pub returns-in-None : goal.returns-in-None
returns-in-None g c =
    let it = begins g.S.Store c.args.text.now (bound c.args.params.now) c.args.conn.now c.requires c.in_ok-rows.rows.conn.now c.in_ok-rows.ensures.begun c.in_ok-rows.ensures.survives in
    let now = c.next.follows.lender-at-none in
    let columns = g.T.FromRow.columns c.in_ok-found.found in
    let one = walked g.S.Store c.args.text.now (bound c.args.params.now) c.args.conn.now c.requires c.in_ok-rows.rows now [] it c.in-Some.row columns c.in_ok-found.ensures (rw (c.in_ok-row.was, c.in-Some.is) at c.next.follows.holds-at-none) in
    let last = c.next-2.follows.lender-at-none in
    let back = c.conn-in-None-1.given.1 (sym (c.next-2.follows.holds-at-none.same_reference ∙ c.next.follows.holds-at-none.same_reference ∙ c.in_ok-rows.ensures.same_reference)) ∙ c.drop-rows-in-None.ensures in
    rw back (reads_all g.S.Store c.args.text.now (bound c.args.params.now) c.args.conn.now c.requires now last (columns ∷ []) one _ _ (λ h. h) c.in_ok-next.field-0 (rw c.in-None.is refl) (rw c.in_ok-next.was at c.next-2.follows.holds-at-none))

pub returns : goal.returns
returns g c =
    let it = begins g.S.Store c.args.text.now (bound c.args.params.now) c.args.conn.now c.requires c.in_ok-rows.rows.conn.now c.in_ok-rows.ensures.begun c.in_ok-rows.ensures.survives in
    let now = c.next.follows.lender-at-none in
    let columns = g.T.FromRow.columns c.in_ok-found.found in
    let one = walked g.S.Store c.args.text.now (bound c.args.params.now) c.args.conn.now c.requires c.in_ok-rows.rows now [] it c.in-Some.row columns c.in_ok-found.ensures (rw (c.in_ok-row.was, c.in-Some.is) at c.next.follows.holds-at-none) in
    let last = c.next-2.follows.lender-at-none in
    let two = walked g.S.Store c.args.text.now (bound c.args.params.now) c.args.conn.now c.requires now last (columns ∷ []) one c.in-Some-2.field-0 c.in-Some-2.field-0.now refl (rw (c.in_ok-next.was, c.in-Some-2.is) at c.next-2.follows.holds-at-none) in
    let back = c.conn-2-1.given.1 (sym (c.next-2.follows.holds-at-none.same_reference ∙ c.next.follows.holds-at-none.same_reference ∙ c.in_ok-rows.ensures.same_reference)) ∙ c.drop-rows-2.ensures in
    rw back (reads_left g.S.Store c.args.text.now (bound c.args.params.now) c.args.conn.now c.requires last last _ two _ _)
