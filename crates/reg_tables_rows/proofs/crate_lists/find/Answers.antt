use Rattle.reg_tables_rows.proofs.Words.{sym, ◌∙◌, state, if_ok}
use Rattle.reg_tables_represent.proofs.CrateNames.{shown_crate, crate_first, crate_spelled}
use Rattle.reg_tables_rows.proofs.crate_lists.find.Goals as goal

pub returns-clause-found : goal.returns-clause-found
returns-clause-found g c clean =
    let db = (state g.S.Store c.args.conn.now).now.trees in
    let text = c.as_str.result.now in
    if_ok c.by_canon.result
    (λ found e ids s h.
    let shown = shown_crate ids s.publications s.yanked db h.stands.crates text found e in
    (λ n at. crate_first ids s.publications s.yanked db h.stands.crates text n found (at ∙ sym c.as_str.ensures) shown, crate_spelled ids s.publications s.yanked db h.stands.crates text found shown))
    (c.by_canon.ensures.told clean)
