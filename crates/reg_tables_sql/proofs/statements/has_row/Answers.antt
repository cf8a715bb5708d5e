use Rattle.reg_tables_sql.proofs.Words.{[], refl, ◌∙◌, sym, bound, err_of}
use Rattle.reg_tables_sql.proofs.Walking.{begins, spared, walked_more, reads_all, reads_failed, reads_left, reads_none, counted_some}
use Rattle.reg_tables_sql.proofs.statements.has_row.Goals as goal

pub returns-in_err-rows : goal.returns-in_err-rows
returns-in_err-rows g c =
    let is = err_of c.from_residual.result c.from_residual.ensures.0 in
    let told = c.query.follows in
    rw is.1 (reads_none _ _ _ _ (spared g.S.Store c.args.text.now (bound c.args.params.now) c.args.conn.now c.requires c.query.result c.in_err-rows.field-0.0 is.0 told.lender-at-none c.in_err-rows.was told.holds-at-none))

pub rows-init : goal.rows-init
rows-init g c = (refl, ([], refl, begins g.S.Store c.args.text.now (bound c.args.params.now) c.args.conn.now c.requires c.in_ok-rows.rows.conn.now c.in_ok-rows.ensures.begun c.in_ok-rows.ensures.survives))

pub returns-in_err-next : goal.returns-in_err-next
returns-in_err-next g c =
    let now = c.next.follows.lender-at-none in
    let back = c.conn-in_err-next-1.given.1 (sym (c.next.follows.holds-at-none.same_reference ∙ c.rows.invariant.0 ∙ c.in_ok-rows.ensures.same_reference)) ∙ c.drop-rows.ensures in
    let is = err_of c.from_residual-in_err-next.result c.from_residual-in_err-next.ensures.0 in
    let it = c.rows.invariant.1 in
    rw (back, is.1) (reads_failed g.S.Store c.args.text.now (bound c.args.params.now) c.args.conn.now c.requires c.rows.rows now it.0 it.2 _ c.in_err-next.field-0.0 _ (rw c.in_err-next.was at c.next.follows.holds-at-none))

pub returns-then-is_none : goal.returns-then-is_none
returns-then-is_none g c =
    let now = c.next.follows.lender-at-none in
    let back = c.conn-then-is_none-1.given.1 (sym (c.next.follows.holds-at-none.same_reference ∙ c.rows.invariant.0 ∙ c.in_ok-rows.ensures.same_reference)) ∙ c.drop-rows-then-is_none.ensures in
    let it = c.rows.invariant.1 in
    rw back (reads_all g.S.Store c.args.text.now (bound c.args.params.now) c.args.conn.now c.requires c.rows.rows now it.0 it.2 _ _ (λ shown. (it.0, shown, counted_some c.rows.count it.0 it.1)) c.in_ok-next.field-0 c.if-is_none.ensures (rw c.in_ok-next.was at c.next.follows.holds-at-none))

pub rows-preserved : goal.rows-preserved
rows-preserved g c =
    let it = c.rows.invariant.1 in
    let moved = c.next.follows.holds-at-none in (
      moved.same_reference ∙ c.rows.invariant.0,
      walked_more g.S.Store c.args.text.now (bound c.args.params.now) c.args.conn.now c.requires c.rows.rows c.next.follows.lender-at-none it.0 it.2 c.in_ok-next.field-0 c.if-is_none.ensures c.rows.count it.1 (rw c.in_ok-next.was at moved),
    )

pub returns : goal.returns
returns g c =
    let back = c.conn-2-1.given.1 (sym (c.rows.invariant.0 ∙ c.in_ok-rows.ensures.same_reference)) ∙ c.drop-rows-2.ensures in
    let it = c.rows.invariant.1 in
    rw back (reads_left g.S.Store c.args.text.now (bound c.args.params.now) c.args.conn.now c.requires c.rows.rows c.rows.rows it.0 it.2 _ _)
