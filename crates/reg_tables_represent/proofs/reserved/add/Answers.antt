use Rattle.reg_tables_represent.proofs.Common.{◌≡◌, ◌∙◌, arith, Database, HasCleanDisk, state, subst, sym}
use Rattle.reg_tables_represent.specs.Stands.{StandsBy}
use Rattle.reg_tables_represent.proofs.ReservedChanges.{is_there, adds_reserved, stays_reserved}
use Rattle.reg_tables_represent.proofs.Stays.{with_reserved}
use Rattle.reg_tables_represent.proofs.Writings.{◌⨾◌, adds_columns, ends, fails, reads}
use Rattle.reg_tables_represent.proofs.reserved.add.Goals as goal

pub returns-then-branch-clause-stands : goal.returns-then-branch-clause-stands
returns-then-branch-clause-stands g c clean ids s h =
    let stands = h.stands in
    let old = state g.S.Store c.args.conn.now in
    let new = state g.S.Store c.is_there.new.conn in
    let same : new.now ≡ old.now = (c.in_ok-is_there.ensures.only clean).0.0.now_is in
    let there = sym (is_there s.reserved c.args.canon.now old.now.trees stands.reserved) ∙ sym (c.in_ok-is_there.ensures.told clean) ∙ c.if-branch.true in
    stays_reserved ids s c.args.canon.now new.now.trees there (subst (λ (d : Database). StandsBy ids s d.trees) (sym same) stands)

pub returns-clause-stands : goal.returns-clause-stands
returns-clause-stands g c clean ids s h =
    let stands = h.stands in
    let old = state g.S.Store c.args.conn.now in
    let mid = state g.S.Store c.is_there.new.conn in
    let new = state g.S.Store c.insert.new.conn in
    let early : HasCleanDisk mid = omega (arith, c.insert.ensures.survives.clean) in
    let same : mid.now ≡ old.now = (c.in_ok-is_there.ensures.only early).0.0.now_is in
    let then = subst (λ (d : Database). StandsBy ids s d.trees) (sym same) stands in
    let added = c.in_ok-insert.ensures.changes clean in
    with_reserved ids s mid.now.trees new.now.trees then _ added.1.becomes.others (adds_reserved s.reserved c.args.canon.now mid new then.reserved added)

pub returns-in_err-is_there-clause-leaves : goal.returns-in_err-is_there-clause-leaves
returns-in_err-is_there-clause-leaves g c = fails _ c.from_residual.ensures.0 (reads c.in_err-is_there.ensures) c.requires

pub returns-then-branch-clause-leaves : goal.returns-then-branch-clause-leaves
returns-then-branch-clause-leaves g c = ends (reads c.in_ok-is_there.ensures) c.requires

pub returns-in_err-insert-clause-leaves : goal.returns-in_err-insert-clause-leaves
returns-in_err-insert-clause-leaves g c =
    fails _ c.from_residual-in_err-insert.ensures.0 (reads c.in_ok-is_there.ensures ⨾ adds_columns c.in_err-insert.ensures) c.requires

pub returns-clause-leaves : goal.returns-clause-leaves
returns-clause-leaves g c = ends (reads c.in_ok-is_there.ensures ⨾ adds_columns c.in_ok-insert.ensures) c.requires

pub returns-then-branch-clause-tells : goal.returns-then-branch-clause-tells
returns-then-branch-clause-tells g c clean ids s h =
    sym c.if-branch.true ∙ c.in_ok-is_there.ensures.told clean ∙ is_there s.reserved c.args.canon.now (state g.S.Store c.args.conn.now).now.trees h.stands.reserved

pub returns-clause-tells : goal.returns-clause-tells
returns-clause-tells g c clean ids s h =
    let early : HasCleanDisk (state g.S.Store c.is_there.new.conn) = omega (arith, c.insert.ensures.survives.clean) in
    sym c.if-branch.false ∙ c.in_ok-is_there.ensures.told early ∙ is_there s.reserved c.args.canon.now (state g.S.Store c.args.conn.now).now.trees h.stands.reserved
