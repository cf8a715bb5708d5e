use Rattle.std.proofs.Common.{Err}
use Rattle.std.proofs.lemmas.Result.{err_from_is_err_and}
use Rattle.reg_cli_run.specs.Printing.{most_calls}
use Rattle.reg_cli_run.proofs.message.send_both.Goals as goal

pub returns-in_err-more : goal.returns-in_err-more
returns-in_err-more g c =
    let p = err_from_is_err_and c.from_residual-in_err-more.result c.from_residual-in_err-more.ensures.1 in
    rw (p.1, p.2) (c.joined_law.ensures.both c.args.first.now c.args.second.now most_calls c.in_ok-used.used _ _ _ (Err c.in_err-more.field-0.0) c.in_ok-used.ensures c.in_err-more.ensures)
