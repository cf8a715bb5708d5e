use Rattle.reg_tables_represent.proofs.Words.{◌≡◌, Bool, true, false, cond, arith, refl, subst, sym, ◌∙◌, Database, state, HasCleanDisk}
use Rattle.reg_tables_represent.proofs.Words.{StandsSoundBy}
use Rattle.reg_tables_represent.proofs.MarkedStand.{left, mark_told}
use Rattle.reg_tables_represent.proofs.Stays.{with_restricted}
use Rattle.reg_tables_represent.proofs.Writings.{◌⨾◌, ends, fails, reads, removes}
use Rattle.reg_tables_represent.proofs.restricted.lift.Goals as goal

as_found : (b : Bool) → b ≡ cond b true false
as_found true = refl
as_found false = refl

pub returns-clause-stands : goal.returns-clause-stands
returns-clause-stands g c clean ids s h =
    let old = state g.S.Store c.args.conn.now in
    let mid = state g.S.Store c.is_there.new.conn in
    let new = (state g.S.Store c.remove.new.conn).now.trees in
    let early : HasCleanDisk mid = omega (arith, clean, c.remove.ensures.survives.clean) in
    let same : mid.now ≡ old.now = (c.in_ok-is_restricted.ensures.only early).0.0.now_is in
    let then = subst (λ (d : Database). StandsSoundBy ids s d.trees) (sym same) h in
    let at = mid.now.trees in
    let removed = c.in_ok-remove.ensures.changes clean in
    with_restricted ids s at new then.stands _ removed.others (left ids s.publications s.yanked at then.stands.crates s.restricted (at 17) then.stands.restricted c.args.crate_id (new 17) removed.rows_are)

pub returns-clause-tells : goal.returns-clause-tells
returns-clause-tells g c clean ids s h n at =
    let db = (state g.S.Store c.args.conn.now).now.trees in
    let early : HasCleanDisk (state g.S.Store c.is_there.new.conn) = omega (arith, clean, c.remove.ensures.survives.clean) in
    mark_told ids s.publications s.yanked db h.stands.crates s.restricted (db 17) h.stands.restricted c.args.crate_id n at _ (sym (c.in_ok-is_restricted.ensures.told early)) ∙ as_found c.in_ok-is_restricted.is_restricted

pub returns-in_err-is_restricted-clause-leaves : goal.returns-in_err-is_restricted-clause-leaves
returns-in_err-is_restricted-clause-leaves g c = fails _ c.from_residual.ensures.0 (reads c.in_err-is_restricted.ensures) c.requires

pub returns-in_err-remove-clause-leaves : goal.returns-in_err-remove-clause-leaves
returns-in_err-remove-clause-leaves g c = fails _ c.from_residual-in_err-remove.ensures.0 (reads c.in_ok-is_restricted.ensures ⨾ removes _ _ c.in_err-remove.ensures) c.requires

pub returns-clause-leaves : goal.returns-clause-leaves
returns-clause-leaves g c = ends (reads c.in_ok-is_restricted.ensures ⨾ removes _ _ c.in_ok-remove.ensures) c.requires
