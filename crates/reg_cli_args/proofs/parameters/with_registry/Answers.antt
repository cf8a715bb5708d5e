use Rattle.std.proofs.lemmas.Result.{IfOk-weaker}
use Rattle.reg_cli_args.proofs.Making.{excludes, two_added, unless}
use Rattle.reg_cli_args.proofs.parameters.with_registry.Goals as goal

pub returns : goal.returns
returns c = IfOk-weaker c.arg-2.result _ _
    (λ new added app had. two_added _ _ new _ _ app _ _ (unless _ _ _ _ c.option.ensures c.in_ok-required_unless_present.ensures) (excludes _ _ _ _ c.option-2.ensures c.in_ok-conflicts_with.ensures) c.in_ok-arg.ensures added had)
    c.arg-2.ensures
