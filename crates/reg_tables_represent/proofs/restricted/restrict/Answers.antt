use Rattle.reg_tables_represent.proofs.Words.{IfOk-from_err, StandsSoundBy, StandsBy}
use Rattle.reg_tables_represent.proofs.Common.{◌≡◌, ◌∙◌, ap, arith, Database, has_rowid, HasCleanDisk, is_number, list_any, pos, state, subst, sym}
use Rattle.reg_tables_represent.proofs.MarkedStand.{added, again, mark_told, no_crate, no_crate_told}
use Rattle.reg_tables_represent.proofs.Stays.{marked_stay, with_restricted}
use Rattle.reg_tables_represent.proofs.Writings.{◌⨾◌, adds, ends, fails, reads}
use Rattle.reg_tables_represent.proofs.restricted.restrict.Goals as goal

pub returns-then-not-is_crate-clause-stands : goal.returns-then-not-is_crate-clause-stands
returns-then-not-is_crate-clause-stands g c clean ids s h =
    let old = state g.S.Store c.args.conn.now in
    let new = state g.S.Store c.has_id.new.conn in
    let same : new.now ≡ old.now = (c.in_ok-is_crate.ensures.only clean).0.0.now_is in
    let none = sym (c.in_ok-is_crate.ensures.told clean) ∙ c.if-not-is_crate.true in
    let kept = no_crate ids s.publications s.yanked old.now.trees h.stands.crates s.restricted (old.now.trees 17) h.stands.restricted c.args.crate_id none in
    subst (λ os. StandsBy ids (record s { restricted = os }) new.now.trees) kept (subst (λ (d : Database). StandsBy ids s d.trees) (sym same) h.stands)

pub returns-then-is_restricted-clause-stands : goal.returns-then-is_restricted-clause-stands
returns-then-is_restricted-clause-stands g c clean ids s h =
    let old = state g.S.Store c.args.conn.now in
    let mid = state g.S.Store c.has_id.new.conn in
    let new = state g.S.Store c.is_there.new.conn in
    let early : HasCleanDisk mid = omega (arith, clean, c.is_there.ensures.survives.clean) in
    let before : mid.now ≡ old.now = (c.in_ok-is_crate.ensures.only early).0.0.now_is in
    let same : new.now ≡ old.now = (c.in_ok-is_restricted.ensures.only clean).0.0.now_is ∙ before in
    let there = ap (λ (d : Database). list_any (is_number 0 c.args.crate_id) (d.trees 17)) (sym before) ∙ sym (c.in_ok-is_restricted.ensures.told clean) ∙ c.if-is_restricted.true in
    let kept = again ids s.publications s.yanked old.now.trees h.stands.crates s.restricted (old.now.trees 17) h.stands.restricted c.args.crate_id there in
    subst (λ os. StandsBy ids (record s { restricted = os }) new.now.trees) kept (subst (λ (d : Database). StandsBy ids s d.trees) (sym same) h.stands)

pub returns-clause-stands : goal.returns-clause-stands
returns-clause-stands g c clean ids s h =
    let old = state g.S.Store c.args.conn.now in
    let one = state g.S.Store c.has_id.new.conn in
    let two = state g.S.Store c.is_there.new.conn in
    let new = state g.S.Store c.insert.new.conn in
    let clean_two : HasCleanDisk two = omega (arith, clean, c.insert.ensures.survives.clean) in
    let clean_one : HasCleanDisk one = omega (arith, clean_two, c.is_there.ensures.survives.clean) in
    let before : one.now ≡ old.now = (c.in_ok-is_crate.ensures.only clean_one).0.0.now_is in
    let same : two.now ≡ old.now = (c.in_ok-is_restricted.ensures.only clean_two).0.0.now_is ∙ before in
    let crate = sym (c.in_ok-is_crate.ensures.told clean_one) ∙ c.if-not-is_crate.false in
    let then = subst (λ (d : Database). StandsSoundBy ids s d.trees) (sym same) h in
    let crate_then = ap (λ (d : Database). list_any (has_rowid (pos c.args.crate_id)) (d.trees 7)) same ∙ crate in
    let put = c.in_ok-insert.ensures.changes clean in
    let pairs = added ids s.publications s.yanked two.now.trees then.stands.crates s.restricted (two.now.trees 17) then.stands.restricted c.args.crate_id crate_then put.fresh in
    with_restricted ids s two.now.trees new.now.trees then.stands _ put.becomes.others (marked_stay ids.crates _ _ (new.now.trees 17) put.becomes.rows_are pairs)

pub returns-in_err-is_crate-clause-leaves : goal.returns-in_err-is_crate-clause-leaves
returns-in_err-is_crate-clause-leaves g c = fails _ c.from_residual.ensures.0 (reads c.in_err-is_crate.ensures) c.requires

pub returns-in_err-is_restricted-clause-leaves : goal.returns-in_err-is_restricted-clause-leaves
returns-in_err-is_restricted-clause-leaves g c =
    fails _ c.from_residual-in_err-is_restricted.ensures.0
    (reads c.in_ok-is_crate.ensures ⨾ reads c.in_err-is_restricted.ensures) c.requires

pub returns-in_err-insert-clause-leaves : goal.returns-in_err-insert-clause-leaves
returns-in_err-insert-clause-leaves g c =
    fails _ c.from_residual-in_err-insert.ensures.0
    (reads c.in_ok-is_crate.ensures ⨾ reads c.in_ok-is_restricted.ensures ⨾ adds c.in_err-insert.ensures) c.requires

pub returns-clause-leaves : goal.returns-clause-leaves
returns-clause-leaves g c =
    ends (reads c.in_ok-is_crate.ensures ⨾ reads c.in_ok-is_restricted.ensures ⨾ adds c.in_ok-insert.ensures) c.requires

pub returns-then-not-is_crate-clause-leaves : goal.returns-then-not-is_crate-clause-leaves
returns-then-not-is_crate-clause-leaves g c = ends (reads c.in_ok-is_crate.ensures) c.requires

pub returns-then-is_restricted-clause-leaves : goal.returns-then-is_restricted-clause-leaves
returns-then-is_restricted-clause-leaves g c = ends (reads c.in_ok-is_crate.ensures ⨾ reads c.in_ok-is_restricted.ensures) c.requires

pub returns-in_err-is_crate-clause-stands : goal.returns-in_err-is_crate-clause-stands
returns-in_err-is_crate-clause-stands g c clean = IfOk-from_err _ _ c.from_residual.ensures.0

pub returns-in_err-is_restricted-clause-stands : goal.returns-in_err-is_restricted-clause-stands
returns-in_err-is_restricted-clause-stands g c clean = IfOk-from_err _ _ c.from_residual-in_err-is_restricted.ensures.0

pub returns-in_err-insert-clause-stands : goal.returns-in_err-insert-clause-stands
returns-in_err-insert-clause-stands g c clean = IfOk-from_err _ _ c.from_residual-in_err-insert.ensures.0

pub returns-then-not-is_crate-clause-tells : goal.returns-then-not-is_crate-clause-tells
returns-then-not-is_crate-clause-tells g c clean ids s h n at =
    let db = (state g.S.Store c.args.conn.now).now.trees in
    let none = sym (c.in_ok-is_crate.ensures.told clean) ∙ c.if-not-is_crate.true in
    no_crate_told ids s.publications s.yanked db h.stands.crates s.restricted (db 17) h.stands.restricted c.args.crate_id none n at

pub returns-then-is_restricted-clause-tells : goal.returns-then-is_restricted-clause-tells
returns-then-is_restricted-clause-tells g c clean ids s h n at =
    let db = (state g.S.Store c.args.conn.now).now.trees in
    let early : HasCleanDisk (state g.S.Store c.has_id.new.conn) = omega (arith, clean, c.is_there.ensures.survives.clean) in
    let before = (c.in_ok-is_crate.ensures.only early).0.0.now_is in
    let there = ap (λ (d : Database). list_any (is_number 0 c.args.crate_id) (d.trees 17)) (sym before) ∙ sym (c.in_ok-is_restricted.ensures.told clean) ∙ c.if-is_restricted.true in
    mark_told ids s.publications s.yanked db h.stands.crates s.restricted (db 17) h.stands.restricted c.args.crate_id n at _ there

pub returns-clause-tells : goal.returns-clause-tells
returns-clause-tells g c clean ids s h n at =
    let db = (state g.S.Store c.args.conn.now).now.trees in
    let clean_two : HasCleanDisk (state g.S.Store c.is_there.new.conn) = omega (arith, clean, c.insert.ensures.survives.clean) in
    let clean_one : HasCleanDisk (state g.S.Store c.has_id.new.conn) = omega (arith, clean_two, c.is_there.ensures.survives.clean) in
    let before = (c.in_ok-is_crate.ensures.only clean_one).0.0.now_is in
    let absent = ap (λ (d : Database). list_any (is_number 0 c.args.crate_id) (d.trees 17)) (sym before) ∙ sym (c.in_ok-is_restricted.ensures.told clean_two) ∙ c.if-is_restricted.false in
    mark_told ids s.publications s.yanked db h.stands.crates s.restricted (db 17) h.stands.restricted c.args.crate_id n at _ absent

pub returns-in_err-is_crate-clause-tells : goal.returns-in_err-is_crate-clause-tells
returns-in_err-is_crate-clause-tells g c clean = IfOk-from_err _ _ c.from_residual.ensures.0

pub returns-in_err-is_restricted-clause-tells : goal.returns-in_err-is_restricted-clause-tells
returns-in_err-is_restricted-clause-tells g c clean = IfOk-from_err _ _ c.from_residual-in_err-is_restricted.ensures.0

pub returns-in_err-insert-clause-tells : goal.returns-in_err-insert-clause-tells
returns-in_err-insert-clause-tells g c clean = IfOk-from_err _ _ c.from_residual-in_err-insert.ensures.0
