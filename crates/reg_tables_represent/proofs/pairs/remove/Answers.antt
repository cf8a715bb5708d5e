use Rattle.reg_tables_represent.proofs.Words.{◌≡◌, arith, subst, sym, ◌∙◌, Database, state, HasCleanDisk, tree_of, related, StandsSoundBy}
use Rattle.reg_tables_represent.proofs.PairsStand.{left, pair_told}
use Rattle.reg_tables_represent.proofs.Relations.{pairs_of, with_pairs}
use Rattle.reg_tables_represent.proofs.Writings.{◌⨾◌, ends, fails, reads, removes}
use Rattle.reg_tables_represent.proofs.pairs.remove.Goals as goal

pub returns-clause-stands : goal.returns-clause-stands
returns-clause-stands g c clean ids s h =
    let old = state g.S.Store c.args.conn.now in
    let mid = state g.S.Store c.is_there.new.conn in
    let new = (state g.S.Store c.remove.new.conn).now.trees in
    let early : HasCleanDisk mid = omega (arith, clean, c.remove.ensures.survives.clean) in
    let same : mid.now ≡ old.now = (c.in_ok-is_pair.ensures.only early).0.0.now_is in
    let then = subst (λ (d : Database). StandsSoundBy ids s d.trees) (sym same) h in
    let at = mid.now.trees in
    let removed = c.in_ok-remove.ensures.changes clean in
    with_pairs c.args.relation ids s at new then.stands _ removed.others (left ids s.publications s.yanked at then.stands.crates (related c.args.relation s) (at (tree_of c.args.relation)) (pairs_of c.args.relation ids s at then.stands) c.args.pair.crate_id c.args.pair.account (new (tree_of c.args.relation)) removed.rows_are)

pub returns-clause-tells : goal.returns-clause-tells
returns-clause-tells g c clean ids s h n at =
    let db = (state g.S.Store c.args.conn.now).now.trees in
    let early : HasCleanDisk (state g.S.Store c.is_there.new.conn) = omega (arith, clean, c.remove.ensures.survives.clean) in
    pair_told ids s.publications s.yanked db h.stands.crates (related c.args.relation s) (db (tree_of c.args.relation)) (pairs_of c.args.relation ids s db h.stands) c.args.pair.crate_id c.args.pair.account n at _ (sym (c.in_ok-is_pair.ensures.told early))

pub returns-in_err-is_pair-clause-leaves : goal.returns-in_err-is_pair-clause-leaves
returns-in_err-is_pair-clause-leaves g c = fails _ c.from_residual.ensures.0 (reads c.in_err-is_pair.ensures) c.requires

pub returns-in_err-remove-clause-leaves : goal.returns-in_err-remove-clause-leaves
returns-in_err-remove-clause-leaves g c = fails _ c.from_residual-in_err-remove.ensures.0 (reads c.in_ok-is_pair.ensures ⨾ removes _ _ c.in_err-remove.ensures) c.requires

pub returns-clause-leaves : goal.returns-clause-leaves
returns-clause-leaves g c = ends (reads c.in_ok-is_pair.ensures ⨾ removes _ _ c.in_ok-remove.ensures) c.requires
