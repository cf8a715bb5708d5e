use Rattle.reg_tables_rows.proofs.Words.{◌∙◌, sym, was_clean, if_ok}
use Rattle.reg_tables_represent.specs.Calls.{ReachesVersions}
use Rattle.reg_tables_represent.specs.Stands.{spelling_at}
use Rattle.reg_tables_represent.proofs.Readings.{true_before}
use Rattle.reg_tables_represent.proofs.Room.{few_lines}
use Rattle.reg_tables_rows.proofs.crate_lists.has_lines.Goals as goal

pub returns-then-is_short-clause-told : goal.returns-then-is_short-clause-told
returns-then-is_short-clause-told g c clean ids s h at =
    sym (few_lines s c.args.name.now c.args.number (spelling_at ids c.args.crate_id) c.in_ok-summary.summary h.sound at (c.in_ok-summary.ensures.found clean ids s h).1 (sym c.is_short.ensures ∙ c.if-is_short.true))

pub returns-clause-told : goal.returns-clause-told
returns-clause-told g c clean =
    let name = c.args.name.now in
    let read = was_clean c.has_versions.ensures.same clean in
    if_ok c.has_versions.result (λ is told. true_before (λ db. ReachesVersions c.args.crate_id name c.args.number db is) c.in_ok-summary.ensures.same read (told name))
    (c.has_versions.ensures.told clean)
