use Rattle.sqlite.specs.Held.{state}
use Rattle.reg_tables_represent.proofs.Standing.{enables_account}
use Rattle.reg_tables_represent.proofs.Stays.{with_accounts}
use Rattle.reg_tables_represent.proofs.accounts.enable.Goals as goal

pub returns-clause-stands : goal.returns-clause-stands
returns-clause-stands g c clean ids s h =
    let old = state g.S.Store c.args.conn.now in
    let new = state g.S.Store c.enable.new.conn in
    let changed = c.in_ok-enable.ensures.changes clean in
    with_accounts ids s old.now.trees new.now.trees h.stands _ changed.touches.others (enables_account s.accounts old new h.stands.accounts c.args.id c.args.enabled changed.replaced changed.unmatched)
