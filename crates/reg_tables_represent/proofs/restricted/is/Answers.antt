use Rattle.reg_tables_represent.proofs.Common.{◌∙◌, state}
use Rattle.reg_tables_represent.proofs.MarkedStand.{is_marked}
use Rattle.reg_tables_represent.proofs.restricted.is.Goals as goal

pub returns-clause-found : goal.returns-clause-found
returns-clause-found g c clean ids s h =
    let db = (state g.S.Store c.args.conn.now).now.trees in
    c.in_ok-there.ensures.told clean ∙ is_marked ids s.publications s.yanked db h.stands.crates s.restricted (db 17) h.stands.restricted c.args.crate_id
