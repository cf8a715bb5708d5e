use Rattle.reg_tables_represent.proofs.Words.{MarksYanked, mark_at, IsOtherwise, StandsSoundBy, StandsBy}
use Rattle.reg_tables_represent.proofs.Common.{◌≡◌, arith, Database, HasCleanDisk, None, Some, state, subst, sym}
use Rattle.reg_tables_represent.proofs.CratesStand.{marks_none, marks_other, marks_some}
use Rattle.reg_tables_represent.proofs.Writings.{◌⨾◌, ends, fails, looks, steps, touches}
use Rattle.reg_tables_represent.proofs.crates.mark.Goals as goal

pub returns-in_err-found-clause-leaves : goal.returns-in_err-found-clause-leaves
returns-in_err-found-clause-leaves g c = fails _ c.from_residual.ensures.0 (looks c.in_err-found.ensures.same) c.requires

pub returns-in_default-clause-leaves : goal.returns-in_default-clause-leaves
returns-in_default-clause-leaves g c = ends (looks c.in_ok-found.ensures.same) c.requires

pub returns-in_err-set_yanked-clause-leaves : goal.returns-in_err-set_yanked-clause-leaves
returns-in_err-set_yanked-clause-leaves g c =
    fails _ c.from_residual-in_err-set_yanked.ensures.0
    (looks c.in_ok-found.ensures.same ⨾ touches 11 c.in_err-set_yanked.ensures (λ m. m.touches)) c.requires

pub returns-in_err-update_after_yank-clause-leaves : goal.returns-in_err-update_after_yank-clause-leaves
returns-in_err-update_after_yank-clause-leaves g c =
    let marked = looks c.in_ok-found.ensures.same ⨾ touches 11 c.in_ok-set_yanked.ensures (λ m. m.touches) in
    fails _ c.from_residual-in_err-update_after_yank.ensures.0 (marked ⨾ steps c.in_err-update_after_yank.ensures.leaves) c.requires

pub returns-clause-leaves : goal.returns-clause-leaves
returns-clause-leaves g c =
    ends (looks c.in_ok-found.ensures.same ⨾ touches 11 c.in_ok-set_yanked.ensures (λ m. m.touches) ⨾ steps c.in_ok-update_after_yank.ensures.leaves) c.requires

pub returns-in_default-clause-stands : goal.returns-in_default-clause-stands
returns-in_default-clause-stands g c clean ids s h =
    let old = state g.S.Store c.args.conn.now in
    let read = state g.S.Store c.find_other_mark.new.conn in
    let id = c.args.crate_id in
    let text = c.args.text.now in
    let b = c.args.yanked in
    let same : read.now ≡ old.now = (c.in_ok-found.ensures.same.only clean).0.0.now_is in
    let told : IsOtherwise id text b old.now.trees None = subst (IsOtherwise id text b old.now.trees) c.in_default.is (c.in_ok-found.ensures.told clean) in
    subst (λ (db : Database). StandsBy ids (mark_at ids id text b s) db.trees) (sym same) (marks_none ids s id text b old.now.trees h told)

pub returns-clause-stands : goal.returns-clause-stands
returns-clause-stands g c clean ids s h =
    let old = state g.S.Store c.args.conn.now in
    let read = state g.S.Store c.find_other_mark.new.conn in
    let mid = state g.S.Store c.set_yanked.new.conn in
    let new = state g.S.Store c.update_after_yank.new.conn in
    let clean_mid : HasCleanDisk mid = omega (arith, c.update_after_yank.ensures.leaves.survives.clean) in
    let clean_read : HasCleanDisk read = omega (arith, c.set_yanked.ensures.survives.clean) in
    let id = c.args.crate_id in
    let text = c.args.text.now in
    let b = c.args.yanked in
    let same : read.now ≡ old.now = (c.in_ok-found.ensures.same.only clean_read).0.0.now_is in
    let told : IsOtherwise id text b old.now.trees (Some c.in-Some.version) = subst (IsOtherwise id text b old.now.trees) c.in-Some.is (c.in_ok-found.ensures.told clean_read) in
    marks_some ids s id c.in-Some.version text b read mid new.now.trees (subst (λ (db : Database). StandsSoundBy ids s db.trees) (sym same) h) (subst (λ (db : Database). IsOtherwise id text b db.trees (Some c.in-Some.version)) (sym same) told)
    (subst (λ release. MarksYanked id release text b read mid) c.release_key.ensures (c.in_ok-set_yanked.ensures.changes clean_mid)) (c.in_ok-update_after_yank.ensures.remarked clean)

pub returns-in_default-clause-tells : goal.returns-in_default-clause-tells
returns-in_default-clause-tells g c clean ids s h n at there =
    let db = (state g.S.Store c.args.conn.now).now.trees in
    let told = subst (IsOtherwise c.args.crate_id c.args.text.now c.args.yanked db) c.in_default.is (c.in_ok-found.ensures.told clean) in
    marks_other ids s c.args.crate_id c.args.text.now c.args.yanked db None h told n at there

pub returns-clause-tells : goal.returns-clause-tells
returns-clause-tells g c clean ids s h n at there =
    let db = (state g.S.Store c.args.conn.now).now.trees in
    let clean_mid : HasCleanDisk (state g.S.Store c.set_yanked.new.conn) = omega (arith, c.update_after_yank.ensures.leaves.survives.clean) in
    let clean_read : HasCleanDisk (state g.S.Store c.find_other_mark.new.conn) = omega (arith, c.set_yanked.ensures.survives.clean) in
    let told = subst (IsOtherwise c.args.crate_id c.args.text.now c.args.yanked db) c.in-Some.is (c.in_ok-found.ensures.told clean_read) in
    marks_other ids s c.args.crate_id c.args.text.now c.args.yanked db (Some c.in-Some.version) h told n at there
