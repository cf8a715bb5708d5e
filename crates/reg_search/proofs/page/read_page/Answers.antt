use Rattle.reg_search.proofs.Words.{get_or, IfOk-from_err, state, HasCleanDisk, rows_in, ShowsCrate}
use Rattle.reg_search.proofs.ReadSteps.{◌⨾◌, fails, none_read, so_far, told_before, was_clean}
use Rattle.reg_search.proofs.Told.{shown_at}
use Rattle.reg_search.proofs.page.read_page.Goals as goal

pub loop-id-init : goal.loop-id-init
loop-id-init g c = (λ clean. rw c.new-hits.ensures.items tt, none_read g.S.Store (tt {0}) c.args.conn.now c.requires.open)

pub loop-id-preserved : goal.loop-id-preserved
loop-id-preserved g c =
    let new = c.read_hit.new.conn in
    let before = c.loop-id.invariant in
    let early : HasCleanDisk (state g.S.Store new) → HasCleanDisk (state g.S.Store c.loop-id.conn) = was_clean c.in_ok-hit.ensures.reads in
    let one = λ (clean : HasCleanDisk (state g.S.Store new)). told_before (λ db. ShowsCrate (get_or c.args.ids.now c.loop-id.id-index 0) db c.in_ok-hit.hit) before.1
    (early clean) (c.in_ok-hit.ensures.shown clean) in
    let shown = λ (clean : HasCleanDisk (state g.S.Store new)). shown_at c.args.ids.now c.loop-id.id-index (rows_in g.S.Store c.args.conn.now) c.loop-id.hits.items
    c.in_ok-hit.hit c.loop-id-test.true (before.0 (early clean)) (one clean) in
    (λ clean. rw c.in_ok-push.ensures.items (shown clean), so_far (before.1 ⨾ c.in_ok-hit.ensures.reads))

pub returns-in_err-hit-clause-shown : goal.returns-in_err-hit-clause-shown
returns-in_err-hit-clause-shown g c clean = IfOk-from_err _ _ c.from_residual.ensures.0

pub returns-in_err-hit-clause-reads : goal.returns-in_err-hit-clause-reads
returns-in_err-hit-clause-reads g c = fails _ c.from_residual.ensures.0 (c.loop-id.invariant.1 ⨾ c.in_err-hit.ensures.reads)

pub returns-in_err-push-clause-shown : goal.returns-in_err-push-clause-shown
returns-in_err-push-clause-shown g c clean = IfOk-from_err _ _ c.from_residual-in_err-push.ensures.0

pub returns-in_err-push-clause-reads : goal.returns-in_err-push-clause-reads
returns-in_err-push-clause-reads g c = so_far (c.loop-id.invariant.1 ⨾ c.in_ok-hit.ensures.reads)

pub returns-clause-reads : goal.returns-clause-reads
returns-clause-reads g c = so_far c.loop-id.invariant.1
