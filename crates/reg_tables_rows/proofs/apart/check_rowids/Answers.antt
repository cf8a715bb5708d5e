use Rattle.reg_tables_rows.proofs.Words.{subst, sym, owners_tree, readers_tree, reserved_tree, rows_in, AreRowids, HaveOwnRowids, ◌⨾◌}
use Rattle.reg_tables_rows.proofs.Words.{fails, left, so_far, told_before, was_clean}
use Rattle.reg_tables_rows.proofs.apart.check_rowids.Goals as goal

pub returns-clause-owners : goal.returns-clause-owners
returns-clause-owners g c clean =
    let rows = rows_in g.S.Store c.args.conn.now in
    let told = c.in_ok-owners.ensures.told (was_clean (left c.in_ok-readers.ensures ⨾ left c.in_ok-reserved.ensures) clean) in
    c.in_ok-check.ensures owners_tree rows (subst (AreRowids owners_tree rows) (sym c.deref.ensures.value) told)

pub returns-clause-readers : goal.returns-clause-readers
returns-clause-readers g c clean =
    let rows = rows_in g.S.Store c.rowids.new.conn in
    told_before (λ db. HaveOwnRowids (db readers_tree)) (left c.in_ok-owners.ensures) (left c.in_ok-readers.ensures) (was_clean (left c.in_ok-reserved.ensures) clean)
    (λ clean. c.in_ok-check-2.ensures readers_tree rows (subst (AreRowids readers_tree rows) (sym c.deref-2.ensures.value) (c.in_ok-readers.ensures.told clean)))

pub returns-clause-reserved : goal.returns-clause-reserved
returns-clause-reserved g c clean =
    let rows = rows_in g.S.Store c.rowids-2.new.conn in
    told_before (λ db. HaveOwnRowids (db reserved_tree)) (left c.in_ok-owners.ensures ⨾ left c.in_ok-readers.ensures) (left c.in_ok-reserved.ensures) clean
    (λ clean. c.in_ok-check-3.ensures reserved_tree rows (subst (AreRowids reserved_tree rows) (sym c.deref-3.ensures.value) (c.in_ok-reserved.ensures.told clean)))

pub returns-clause-same : goal.returns-clause-same
returns-clause-same g c = so_far (left c.in_ok-owners.ensures ⨾ left c.in_ok-readers.ensures ⨾ left c.in_ok-reserved.ensures)

pub returns-in_err-check-clause-same : goal.returns-in_err-check-clause-same
returns-in_err-check-clause-same g c = so_far (left c.in_ok-owners.ensures)

pub returns-in_err-readers-clause-same : goal.returns-in_err-readers-clause-same
returns-in_err-readers-clause-same g c = fails _ c.from_residual-in_err-readers.ensures.0 (left c.in_ok-owners.ensures ⨾ left c.in_err-readers.ensures)

pub returns-in_err-check-2-clause-same : goal.returns-in_err-check-2-clause-same
returns-in_err-check-2-clause-same g c = so_far (left c.in_ok-owners.ensures ⨾ left c.in_ok-readers.ensures)

pub returns-in_err-reserved-clause-same : goal.returns-in_err-reserved-clause-same
returns-in_err-reserved-clause-same g c = fails _ c.from_residual-in_err-reserved.ensures.0 (left c.in_ok-owners.ensures ⨾ left c.in_ok-readers.ensures ⨾ left c.in_err-reserved.ensures)

pub returns-in_err-check-3-clause-same : goal.returns-in_err-check-3-clause-same
returns-in_err-check-3-clause-same g c = so_far (left c.in_ok-owners.ensures ⨾ left c.in_ok-readers.ensures ⨾ left c.in_ok-reserved.ensures)
