use Rattle.reg_tables_rows.proofs.Words.{state, if_ok}
use Rattle.reg_tables_represent.proofs.VersionEntries.{lists_versions}
use Rattle.reg_tables_rows.proofs.crate_lists.list.Goals as goal

pub returns-clause-found : goal.returns-clause-found
returns-clause-found g c clean =
    let db = (state g.S.Store c.args.conn.now).now.trees in
    if_ok c.of_crate.result (λ list e ids s h. lists_versions ids s.publications s.yanked db h.stands.crates c.args.crate_id list.items e) (c.of_crate.ensures.told clean)
