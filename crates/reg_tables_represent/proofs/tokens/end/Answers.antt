use Rattle.sqlite.specs.Held.{state}
use Rattle.reg_tables_represent.proofs.Stays.{with_tokens}
use Rattle.reg_tables_represent.proofs.TokenChanges.{ends_token}
use Rattle.reg_tables_represent.proofs.tokens.end.Goals as goal

pub returns-clause-stands : goal.returns-clause-stands
returns-clause-stands g c clean ids s h =
    let old = state g.S.Store c.args.conn.now in
    let new = state g.S.Store c.revoke.new.conn in
    let changed = c.in_ok-revoke.ensures.changes clean in
    with_tokens ids s old.now.trees new.now.trees h.stands _ 3 (λ n apart _. apart) changed.touches.others (ends_token s.tokens old new h.stands.tokens c.args.id changed.replaced changed.unmatched changed.touches)
