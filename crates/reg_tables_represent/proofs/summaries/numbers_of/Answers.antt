use Rattle.reg_tables_represent.proofs.Common.{◌∙◌, ap, map, rows_in}
use Rattle.reg_tables_represent.proofs.SummaryRows.{highest_is, length_is}
use Rattle.reg_tables_represent.specs.Summaries.{highest_in, length_in, shown_mark}
use Rattle.reg_tables_represent.proofs.summaries.numbers_of.Goals as goal

pub returns-clause-told : goal.returns-clause-told
returns-clause-told g c clean ids ps yanked stands =
    let db = rows_in g.S.Store c.args.conn.now in
    let marks = c.in_ok-marks.marks.items in
    let found = c.in_ok-marks.ensures.told clean in (
      c.in_ok-numbers.ensures.highest ∙ ap (λ l. highest_in (map shown_mark l)) c.deref.ensures.value ∙ highest_is ids ps yanked db stands c.args.crate_id marks found,
      c.in_ok-numbers.ensures.length ∙ ap (λ l. length_in (map shown_mark l)) c.deref.ensures.value ∙ length_is ids ps yanked db stands c.args.crate_id marks found,
    )
