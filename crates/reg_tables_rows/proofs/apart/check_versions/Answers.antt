use Rattle.reg_tables_rows.proofs.Words.{[], ◌∷◌, on_ok_weaker}
use Rattle.std.specs.Prelude.{drop}
use Rattle.reg_tables_sql.specs.Versions.{columns_of_version}
use Rattle.reg_tables_rows.proofs.OwnIds.{own_listed}
use Rattle.reg_tables_rows.proofs.apart.check_versions.Goals as goal

pub returns : goal.returns
returns c = on_ok_weaker c.check_that.result (λ up db are. own_listed (λ it. it.id) (λ it. drop 1 (columns_of_version it)) (2 ∷ 3 ∷ 4 ∷ 5 ∷ 6 ∷ 7 ∷ 8 ∷ []) (db 11) c.args.versions.now are (c.versions_rise.ensures.0 up)) c.check_that.ensures
