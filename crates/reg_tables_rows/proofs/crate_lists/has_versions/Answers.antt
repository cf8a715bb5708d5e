use Rattle.reg_tables_rows.proofs.Words.{ap, ◌∙◌, nat_le, state, left, so_far, if_ok}
use Rattle.reg_tables_represent.proofs.VersionCounts.{versions_counted}
use Rattle.reg_tables_rows.proofs.crate_lists.has_versions.Goals as goal

pub returns-clause-told : goal.returns-clause-told
returns-clause-told g c clean =
    let db = (state g.S.Store c.args.conn.now).now.trees in
    if_ok c.reaches.result (λ is e name ids s h at. e.0 ∙ ap (nat_le c.args.number) (versions_counted ids s db h.stands.crates c.args.crate_id name at c.in_ok-count.count e.1 (c.in_ok-count.ensures.told clean))) c.reaches.ensures

pub returns-clause-same : goal.returns-clause-same
returns-clause-same g c = so_far (left c.in_ok-count.ensures)
