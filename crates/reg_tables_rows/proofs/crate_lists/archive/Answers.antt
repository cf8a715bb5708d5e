use Rattle.reg_tables_rows.proofs.Words.{◌≡◌, subst, state, if_ok}
use Rattle.reg_tables_sql.specs.Archives.{archives_of, columns_of_bytes}
use Rattle.reg_tables_schema.specs.Shown.{shown_of}
use Rattle.reg_tables_represent.proofs.ArchiveEntries.{finds_archive}
use Rattle.reg_tables_rows.proofs.crate_lists.archive.Goals as goal

pub returns-clause-found : goal.returns-clause-found
returns-clause-found g c clean =
    let db = (state g.S.Store c.args.conn.now).now.trees in
    if_ok c.of_version.result
    (λ found e ids s h.
    finds_archive ids s.publications s.yanked db h.stands.crates c.args.crate_id c.args.text.now found (subst (λ release. archives_of c.args.crate_id release c.args.text.now db ≡ shown_of columns_of_bytes found) c.release_key.ensures e))
    (c.of_version.ensures.told clean)
