use Rattle.reg_tables_rows.proofs.Words.{◌∙◌, state, count_is, crates_are, left, so_far, if_ok}
use Rattle.reg_tables_represent.specs.Stands.{row_of_crate}
use Rattle.reg_tables_rows.proofs.counts.count_crates.Goals as goal

pub returns-clause-counted : goal.returns-clause-counted
returns-clause-counted g c clean =
    let db = (state g.S.Store c.args.conn.now).now.trees in
    if_ok c.check_exact.result (λ n is ids s h. count_is row_of_crate ids.crates (db 7) n c.in_ok-n.n is h.stands.crates.crate_rows (c.in_ok-n.ensures.told clean) ∙ crates_are ids s.publications s.yanked db h.stands.crates) c.check_exact.ensures

pub returns-clause-same : goal.returns-clause-same
returns-clause-same g c = so_far (left c.in_ok-n.ensures)
