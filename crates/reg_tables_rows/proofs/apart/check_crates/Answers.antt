use Rattle.reg_tables_rows.proofs.Words.{[], ◌∷◌, on_ok_weaker}
use Rattle.std.specs.Prelude.{drop}
use Rattle.reg_tables_sql.specs.Crates.{crate_columns}
use Rattle.reg_tables_rows.proofs.OwnIds.{own_listed}
use Rattle.reg_tables_rows.proofs.apart.check_crates.Goals as goal

pub returns : goal.returns
returns c = on_ok_weaker c.check_that.result (λ up db are. own_listed (λ it. it.id) (λ it. drop 1 (crate_columns it)) (2 ∷ 3 ∷ []) (db 7) c.args.crates.now are (c.crates_rise.ensures.0 up)) c.check_that.ensures
