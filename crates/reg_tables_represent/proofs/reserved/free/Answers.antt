use Rattle.reg_tables_represent.proofs.Words.{◌≡◌, arith, subst, sym, ◌∙◌, Database, state, HasCleanDisk, StandsSoundBy}
use Rattle.reg_tables_represent.proofs.ReservedChanges.{is_there, removes_reserved}
use Rattle.reg_tables_represent.proofs.Stays.{with_reserved}
use Rattle.reg_tables_represent.proofs.Writings.{◌⨾◌, ends, fails, reads, removes}
use Rattle.reg_tables_represent.proofs.reserved.free.Goals as goal

pub returns-clause-stands : goal.returns-clause-stands
returns-clause-stands g c clean ids s h =
    let old = state g.S.Store c.args.conn.now in
    let mid = state g.S.Store c.is_there.new.conn in
    let new = state g.S.Store c.remove.new.conn in
    let early : HasCleanDisk mid = omega (arith, clean, c.remove.ensures.survives.clean) in
    let same : mid.now ≡ old.now = (c.in_ok-there.ensures.only early).0.0.now_is in
    let then = subst (λ (d : Database). StandsSoundBy ids s d.trees) (sym same) h in
    let removed = c.in_ok-remove.ensures.changes clean in
    with_reserved ids s mid.now.trees new.now.trees then.stands _ removed.others (removes_reserved s.reserved c.args.canon.now mid new then.stands.reserved removed)

pub returns-clause-tells : goal.returns-clause-tells
returns-clause-tells g c clean ids s h =
    let early : HasCleanDisk (state g.S.Store c.is_there.new.conn) = omega (arith, clean, c.remove.ensures.survives.clean) in
    c.in_ok-there.ensures.told early ∙ is_there s.reserved c.args.canon.now (state g.S.Store c.args.conn.now).now.trees h.stands.reserved

pub returns-in_err-there-clause-leaves : goal.returns-in_err-there-clause-leaves
returns-in_err-there-clause-leaves g c = fails _ c.from_residual.ensures.0 (reads c.in_err-there.ensures) c.requires

pub returns-in_err-remove-clause-leaves : goal.returns-in_err-remove-clause-leaves
returns-in_err-remove-clause-leaves g c = fails _ c.from_residual-in_err-remove.ensures.0 (reads c.in_ok-there.ensures ⨾ removes _ _ c.in_err-remove.ensures) c.requires

pub returns-clause-leaves : goal.returns-clause-leaves
returns-clause-leaves g c = ends (reads c.in_ok-there.ensures ⨾ removes _ _ c.in_ok-remove.ensures) c.requires
