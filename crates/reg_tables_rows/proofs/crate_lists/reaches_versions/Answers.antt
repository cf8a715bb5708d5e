use Rattle.reg_tables_rows.proofs.Words.{◌∙◌, sym, state}
use Rattle.std.proofs.lemmas.Bool.{ltb-true}
use Rattle.reg_tables_represent.proofs.VersionCounts.{few_versions}
use Rattle.reg_tables_rows.proofs.crate_lists.reaches_versions.Goals as goal

pub returns-then-are_few-clause-told : goal.returns-then-are_few-clause-told
returns-then-are_few-clause-told g c clean ids s h at =
    let db = (state g.S.Store c.args.conn.now).now.trees in
    sym (few_versions ids s db h.stands.crates c.args.crate_id c.args.name.now at c.in_ok-last.last c.args.number (c.in_ok-last.ensures.told clean) (ltb-true _ _ (sym c.are_few.ensures ∙ c.if-are_few.true)))
