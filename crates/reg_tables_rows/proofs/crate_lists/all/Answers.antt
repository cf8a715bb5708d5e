use Rattle.reg_tables_rows.proofs.Words.{state, if_ok}
use Rattle.reg_tables_represent.proofs.AllCrates.{all_there, each_is, lists_crates, rising}
use Rattle.reg_tables_rows.proofs.crate_lists.all.Goals as goal

pub returns-clause-found : goal.returns-clause-found
returns-clause-found g c clean =
    let db = (state g.S.Store c.args.conn.now).now.trees in
    if_ok c.all.result
    (λ list e ids s h.
    let crates = h.stands.crates in
    let shown = lists_crates ids s.publications s.yanked db crates list.items e in
    (each_is ids s.publications s.yanked db crates list.items shown, rising ids s.publications s.yanked db crates list.items shown, all_there ids s.publications s.yanked db crates list.items shown))
    (c.all.ensures.told clean)
