use Rattle.reg_cli_run.proofs.pipe.run_pipe.Goals as goal

pub returns : goal.returns
returns g c =
    let it = c.pipe_traced.ensures in
    record { piped = λ clean s shows. (it.piped clean s shows).0; spends = it.spends; keeps = it.keeps }
