use Rattle.reg_tables_represent.proofs.Common.{◌∙◌, state}
use Rattle.reg_tables_represent.proofs.TokenEntries.{live_told}
use Rattle.reg_tables_represent.proofs.tokens.is_live.Goals as goal

pub returns-clause-told : goal.returns-clause-told
returns-clause-told g c clean ids s h =
    c.live_of.ensures ∙ live_told s.tokens (state g.S.Store c.args.conn.now).now.trees h.stands.tokens c.args.id c.in_ok-found.found (c.in_ok-found.ensures.told clean)
