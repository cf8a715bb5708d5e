use Rattle.reg_tables_represent.proofs.Common.{arith, HasCleanDisk, state}
use Rattle.reg_tables_represent.proofs.SummarySteps.{summary_remarked}
use Rattle.reg_tables_represent.proofs.summaries.update_after_yank.Goals as goal

pub returns-clause-remarked : goal.returns-clause-remarked
returns-clause-remarked g c clean =
    let old = state g.S.Store c.args.conn.now in
    let read = state g.S.Store c.numbers_marked.new.conn in
    let new = state g.S.Store c.update.new.conn in
    let clean_read : HasCleanDisk read = omega (arith, c.update.ensures.survives.clean) in
    let n = c.in_ok-numbers.numbers in
    summary_remarked old read new (c.in_ok-numbers.ensures.same.only clean_read).0.0.now_is c.args.crate_id c.args.version n.highest n.index_length (c.in_ok-numbers.ensures.told clean_read) (c.in_ok-update.ensures.changes clean)
