use Rattle.std.proofs.lemmas.Result.{on_ok_weaker}
use Rattle.reg_tables_rows.proofs.OwnRowids.{own_rising}
use Rattle.reg_tables_rows.proofs.apart.check.Goals as goal

pub returns : goal.returns
returns c = on_ok_weaker c.check_that.result (λ up tree db are. own_rising tree db c.args.rowids.now are (c.rise.ensures.0 up)) c.check_that.ensures
