use Rattle.std.proofs.lemmas.Result.{IfOk-weaker}
use Rattle.reg_cli_args.proofs.Making.{two_added}
use Rattle.reg_cli_args.proofs.usage.with_serving.Goals as goal

pub returns : goal.returns
returns c = IfOk-weaker c.arg-2.result _ _ (λ new added app had. two_added _ _ new _ _ app _ _ c.flag.ensures c.option.ensures c.in_ok-arg.ensures added had) c.arg-2.ensures
