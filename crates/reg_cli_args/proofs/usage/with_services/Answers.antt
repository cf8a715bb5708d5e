use Rattle.std.proofs.lemmas.Result.{IfOk-weaker}
use Rattle.reg_cli_args.proofs.usage.with_services.Goals as goal

pub returns : goal.returns
returns c = IfOk-weaker c.with_level-3.result _ _ (λ new added app had.
    added _ _ c.pipe_words.ensures
    (c.in_ok-command-2.ensures _ _ c.serve_words.ensures
    (c.in_ok-command.ensures app _ c.init_words.ensures had)))
    c.with_level-3.ensures
