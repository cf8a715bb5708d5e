use Rattle.reg_tables_represent.proofs.Common.{◌∙◌, state}
use Rattle.reg_tables_represent.proofs.ReservedChanges.{is_there}
use Rattle.reg_tables_represent.proofs.reserved.has.Goals as goal

pub returns-clause-found : goal.returns-clause-found
returns-clause-found g c clean ids s h =
    c.in_ok-there.ensures.told clean ∙ is_there s.reserved c.args.canon.now (state g.S.Store c.args.conn.now).now.trees h.stands.reserved
