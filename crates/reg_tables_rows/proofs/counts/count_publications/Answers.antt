use Rattle.reg_tables_rows.proofs.Words.{◌∙◌, ap, length, sym, state, count_is, left, so_far, if_ok}
use Rattle.std.proofs.lemmas.List.{length-map}
use Rattle.reg_tables_represent.specs.Stands.{row_of_version}
use Rattle.reg_tables_rows.proofs.counts.count_publications.Goals as goal

pub returns-clause-counted : goal.returns-clause-counted
returns-clause-counted g c clean =
    let db = (state g.S.Store c.args.conn.now).now.trees in
    if_ok c.check_exact.result (λ n is ids s h.
    count_is (row_of_version s.yanked) ids.versions (db 11) n c.in_ok-n.n is h.stands.crates.version_rows (c.in_ok-n.ensures.told clean)
    ∙ sym (length-map ids.versions (λ v. v.publication)) ∙ ap length h.stands.crates.published) c.check_exact.ensures

pub returns-clause-same : goal.returns-clause-same
returns-clause-same g c = so_far (left c.in_ok-n.ensures)
