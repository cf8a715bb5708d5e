use Rattle.reg_tables_represent.proofs.Words.{is_owner, tree_of, related, with_related, StandsSoundBy, StandsBy}
use Rattle.reg_tables_represent.proofs.Common.{◌≡◌, ◌∙◌, ap, arith, Database, has_rowid, HasCleanDisk, list_any, pos, state, subst, sym}
use Rattle.reg_tables_represent.proofs.PairsStand.{added, again, no_crate, no_crate_told, pair_told}
use Rattle.reg_tables_represent.proofs.Relations.{pairs_of, with_itself, with_pairs}
use Rattle.reg_tables_represent.proofs.Stays.{pairs_stay}
use Rattle.reg_tables_represent.proofs.Writings.{◌⨾◌, adds_columns, ends, fails, reads}
use Rattle.reg_tables_represent.proofs.pairs.add.Goals as goal

pub returns-then-not-is_crate-clause-stands : goal.returns-then-not-is_crate-clause-stands
returns-then-not-is_crate-clause-stands g c clean ids s h =
    let old = state g.S.Store c.args.conn.now in
    let new = state g.S.Store c.has_id.new.conn in
    let same : new.now ≡ old.now = (c.in_ok-is_crate.ensures.only clean).0.0.now_is in
    let none = sym (c.in_ok-is_crate.ensures.told clean) ∙ c.if-not-is_crate.true in
    let kept = no_crate ids s.publications s.yanked old.now.trees h.stands.crates (related c.args.relation s) (old.now.trees (tree_of c.args.relation)) (pairs_of c.args.relation ids s old.now.trees h.stands) c.args.pair.crate_id c.args.pair.account none in
    subst (λ os. StandsBy ids (with_related c.args.relation os s) new.now.trees) kept (with_itself c.args.relation ids s new.now.trees (subst (λ (d : Database). StandsBy ids s d.trees) (sym same) h.stands))

pub returns-then-is_pair-clause-stands : goal.returns-then-is_pair-clause-stands
returns-then-is_pair-clause-stands g c clean ids s h =
    let old = state g.S.Store c.args.conn.now in
    let mid = state g.S.Store c.has_id.new.conn in
    let new = state g.S.Store c.is_there.new.conn in
    let early : HasCleanDisk mid = omega (arith, clean, c.is_there.ensures.survives.clean) in
    let before : mid.now ≡ old.now = (c.in_ok-is_crate.ensures.only early).0.0.now_is in
    let same : new.now ≡ old.now = (c.in_ok-is_pair.ensures.only clean).0.0.now_is ∙ before in
    let there = ap (λ (d : Database). list_any (is_owner c.args.pair.crate_id c.args.pair.account) (d.trees (tree_of c.args.relation))) (sym before) ∙ sym (c.in_ok-is_pair.ensures.told clean) ∙ c.if-is_pair.true in
    let kept = again ids s.publications s.yanked old.now.trees h.stands.crates (related c.args.relation s) (old.now.trees (tree_of c.args.relation)) (pairs_of c.args.relation ids s old.now.trees h.stands) c.args.pair.crate_id c.args.pair.account there in
    subst (λ os. StandsBy ids (with_related c.args.relation os s) new.now.trees) kept (with_itself c.args.relation ids s new.now.trees (subst (λ (d : Database). StandsBy ids s d.trees) (sym same) h.stands))

pub returns-clause-stands : goal.returns-clause-stands
returns-clause-stands g c clean ids s h =
    let old = state g.S.Store c.args.conn.now in
    let one = state g.S.Store c.has_id.new.conn in
    let two = state g.S.Store c.is_there.new.conn in
    let new = state g.S.Store c.insert.new.conn in
    let clean_two : HasCleanDisk two = omega (arith, clean, c.insert.ensures.survives.clean) in
    let clean_one : HasCleanDisk one = omega (arith, clean_two, c.is_there.ensures.survives.clean) in
    let before : one.now ≡ old.now = (c.in_ok-is_crate.ensures.only clean_one).0.0.now_is in
    let same : two.now ≡ old.now = (c.in_ok-is_pair.ensures.only clean_two).0.0.now_is ∙ before in
    let crate = sym (c.in_ok-is_crate.ensures.told clean_one) ∙ c.if-not-is_crate.false in
    let absent = ap (λ (d : Database). list_any (is_owner c.args.pair.crate_id c.args.pair.account) (d.trees (tree_of c.args.relation))) (sym before) ∙ sym (c.in_ok-is_pair.ensures.told clean_two) ∙ c.if-is_pair.false in
    let then = subst (λ (d : Database). StandsSoundBy ids s d.trees) (sym same) h in
    let crate_then = ap (λ (d : Database). list_any (has_rowid (pos c.args.pair.crate_id)) (d.trees 7)) same ∙ crate in
    let absent_then = ap (λ (d : Database). list_any (is_owner c.args.pair.crate_id c.args.pair.account) (d.trees (tree_of c.args.relation))) same ∙ absent in
    let put = c.in_ok-insert.ensures.changes clean in
    let pairs = added ids s.publications s.yanked two.now.trees then.stands.crates (related c.args.relation s) (two.now.trees (tree_of c.args.relation)) (pairs_of c.args.relation ids s two.now.trees then.stands) c.args.pair.crate_id c.args.pair.account crate_then absent_then put.0 put.1.fresh in
    with_pairs c.args.relation ids s two.now.trees new.now.trees then.stands _ put.1.becomes.others (pairs_stay ids.crates _ _ (new.now.trees (tree_of c.args.relation)) put.1.becomes.rows_are pairs)

pub returns-in_err-is_crate-clause-leaves : goal.returns-in_err-is_crate-clause-leaves
returns-in_err-is_crate-clause-leaves g c = fails _ c.from_residual.ensures.0 (reads c.in_err-is_crate.ensures) c.requires

pub returns-in_err-is_pair-clause-leaves : goal.returns-in_err-is_pair-clause-leaves
returns-in_err-is_pair-clause-leaves g c =
    fails _ c.from_residual-in_err-is_pair.ensures.0 (reads c.in_ok-is_crate.ensures ⨾ reads c.in_err-is_pair.ensures) c.requires

pub returns-in_err-insert-clause-leaves : goal.returns-in_err-insert-clause-leaves
returns-in_err-insert-clause-leaves g c =
    fails _ c.from_residual-in_err-insert.ensures.0
    (reads c.in_ok-is_crate.ensures ⨾ reads c.in_ok-is_pair.ensures ⨾ adds_columns c.in_err-insert.ensures) c.requires

pub returns-clause-leaves : goal.returns-clause-leaves
returns-clause-leaves g c =
    ends (reads c.in_ok-is_crate.ensures ⨾ reads c.in_ok-is_pair.ensures ⨾ adds_columns c.in_ok-insert.ensures) c.requires

pub returns-then-not-is_crate-clause-tells : goal.returns-then-not-is_crate-clause-tells
returns-then-not-is_crate-clause-tells g c clean ids s h n at =
    let db = (state g.S.Store c.args.conn.now).now.trees in
    let none = sym (c.in_ok-is_crate.ensures.told clean) ∙ c.if-not-is_crate.true in
    no_crate_told ids s.publications s.yanked db h.stands.crates (related c.args.relation s) (db (tree_of c.args.relation)) (pairs_of c.args.relation ids s db h.stands) c.args.pair.crate_id c.args.pair.account none n at

pub returns-then-is_pair-clause-tells : goal.returns-then-is_pair-clause-tells
returns-then-is_pair-clause-tells g c clean ids s h n at =
    let old = state g.S.Store c.args.conn.now in
    let early : HasCleanDisk (state g.S.Store c.has_id.new.conn) = omega (arith, clean, c.is_there.ensures.survives.clean) in
    let before = (c.in_ok-is_crate.ensures.only early).0.0.now_is in
    let there = ap (λ (d : Database). list_any (is_owner c.args.pair.crate_id c.args.pair.account) (d.trees (tree_of c.args.relation))) (sym before) ∙ sym (c.in_ok-is_pair.ensures.told clean) ∙ c.if-is_pair.true in
    pair_told ids s.publications s.yanked old.now.trees h.stands.crates (related c.args.relation s) (old.now.trees (tree_of c.args.relation)) (pairs_of c.args.relation ids s old.now.trees h.stands) c.args.pair.crate_id c.args.pair.account n at _ there

pub returns-clause-tells : goal.returns-clause-tells
returns-clause-tells g c clean ids s h n at =
    let old = state g.S.Store c.args.conn.now in
    let clean_two : HasCleanDisk (state g.S.Store c.is_there.new.conn) = omega (arith, clean, c.insert.ensures.survives.clean) in
    let clean_one : HasCleanDisk (state g.S.Store c.has_id.new.conn) = omega (arith, clean_two, c.is_there.ensures.survives.clean) in
    let before = (c.in_ok-is_crate.ensures.only clean_one).0.0.now_is in
    let absent = ap (λ (d : Database). list_any (is_owner c.args.pair.crate_id c.args.pair.account) (d.trees (tree_of c.args.relation))) (sym before) ∙ sym (c.in_ok-is_pair.ensures.told clean_two) ∙ c.if-is_pair.false in
    pair_told ids s.publications s.yanked old.now.trees h.stands.crates (related c.args.relation s) (old.now.trees (tree_of c.args.relation)) (pairs_of c.args.relation ids s old.now.trees h.stands) c.args.pair.crate_id c.args.pair.account n at _ absent
