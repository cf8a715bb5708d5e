use Rattle.std.proofs.lemmas.Result.{IfOk-weaker}
use Rattle.reg_cli_args.proofs.Making.{two_added}
use Rattle.reg_cli_args.proofs.usage.pipe_words.Goals as goal

pub returns : goal.returns
returns c = IfOk-weaker c.arg-2.result _ _
    (λ new added. two_added _ _ new _ _ _ _ _ c.option.ensures c.option-2.ensures c.in_ok-arg.ensures added (c.in_ok-with_place.ensures _ c.described-command.ensures))
    c.arg-2.ensures
