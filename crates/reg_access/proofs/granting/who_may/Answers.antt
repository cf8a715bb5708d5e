use Rattle.reg_tables.specs.Works.{rows_seen}
use Rattle.reg_access.proofs.GrantLaw.{granted_by}
use Rattle.reg_access.proofs.Questions.{asks_after, asks_both, asks_failed, asks_made, asks_refused}
use Rattle.reg_access.proofs.granting.who_may.Goals as goal

pub returns-in-Ok : goal.returns-in-Ok
returns-in-Ok g c =
    asks_made g.S.Store (c.in_ok-standing.standing, c.in_ok-rows.rows) c.in-Ok.list c.args.work.now c.find_candidates.new.work
    (λ h ids s holds. granted_by ids s (rows_seen g.S.Store c.args.work.now) holds c.args.name.now c.is_named.ensures c.in_ok-standing.standing c.in_ok-rows.rows.items c.in-Ok.list.items (rw c.canon-text.ensures at h.0) (rw c.canon-text.ensures at h.1) (rw (c.deref.ensures.value, c.deref-2.ensures.value) at c.in-Ok.ensures))
    (asks_both g.S.Store c.in_ok-standing.standing c.in_ok-rows.rows c.args.work.now c.find_standing.new.work c.find_candidates.new.work c.in_ok-standing.ensures c.in_ok-rows.ensures)

pub returns-in_err-rows : goal.returns-in_err-rows
returns-in_err-rows g c =
    asks_after g.S.Store c.in_ok-standing.standing _ c.args.work.now c.find_standing.new.work c.find_candidates.new.work c.in_ok-standing.ensures
    (asks_failed g.S.Store _ _ c.find_standing.new.work c.find_candidates.new.work c.from_residual-in_err-rows.ensures.0 c.in_err-rows.ensures)

pub returns : goal.returns
returns g c =
    asks_refused g.S.Store (c.in_ok-standing.standing, c.in_ok-rows.rows) c.fail.result c.args.work.now c.find_candidates.new.work c.fail.new.self c.fail.ensures.fails
    (asks_both g.S.Store c.in_ok-standing.standing c.in_ok-rows.rows c.args.work.now c.find_standing.new.work c.find_candidates.new.work c.in_ok-standing.ensures c.in_ok-rows.ensures) c.fail.ensures.leaves
