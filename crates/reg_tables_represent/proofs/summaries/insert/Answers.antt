use Rattle.reg_tables_represent.proofs.Common.{arith, HasCleanDisk, state}
use Rattle.reg_tables_represent.proofs.SummarySteps.{summary_added}
use Rattle.reg_tables_represent.proofs.summaries.insert.Goals as goal

pub returns-clause-added : goal.returns-clause-added
returns-clause-added g c clean =
    let old = state g.S.Store c.args.conn.now in
    let read = state g.S.Store c.version_at.new.conn in
    let new = state g.S.Store c.insert.new.conn in
    let clean_read : HasCleanDisk read = omega (arith, c.insert.ensures.survives.clean) in
    summary_added old read new (c.in_ok-only.ensures.same.only clean_read).0.0.now_is c.args.crate_id c.args.version c.in_ok-index_length.index_length c.in_ok-only.only (c.in_ok-only.ensures.told clean_read) c.in_ok-index_length.ensures (c.in_ok-insert.ensures.changes clean)
