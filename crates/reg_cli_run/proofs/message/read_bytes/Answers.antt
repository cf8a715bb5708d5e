use Rattle.std.proofs.lemmas.Result.{err_from_is_err_and}
use Rattle.std.proofs.KnownBytes.{Consumes-trans}
use Rattle.reg_cli_run.proofs.message.read_bytes.Goals as goal

pub returns-in_err-extend_from_slice : goal.returns-in_err-extend_from_slice
returns-in_err-extend_from_slice g c =
    let p = err_from_is_err_and c.from_residual-in_err-extend_from_slice.result c.from_residual-in_err-extend_from_slice.ensures.1 in
    (_, Consumes-trans _ _ _ _ _ c.reading.invariant.bytes c.in-Ok.ensures.bytes.0, rw (p.1, p.2) tt)
