use Rattle.std.proofs.Common.{[], ◌∷◌, codes, subst}
use Rattle.std.proofs.lemmas.Result.{IfOk-weaker}
use Rattle.reg_cli_args.specs.Grammar.{needed_rule, option_rule}
use Rattle.reg_cli_args.specs.Making.{HasRules}
use Rattle.reg_cli_args.proofs.Making.{arg_added, needed, rules_append, two_added}
use Rattle.reg_cli_args.proofs.usage.with_numbers.Goals as goal

pub returns : goal.returns
returns c = IfOk-weaker c.arg-3.result _ _
    (λ new added app had. subst (λ it. HasRules it new) (rules_append app (needed_rule (codes "port") ∷ needed_rule (codes "connections") ∷ []) (option_rule (codes "replies") ∷ []))
    (arg_added _ _ _ _ _ c.option-3.ensures added
    (two_added _ _ _ _ _ app _ _ (needed _ _ _ c.option.ensures c.required.ensures) (needed _ _ _ c.option-2.ensures c.required-2.ensures) c.in_ok-arg.ensures c.in_ok-arg-2.ensures had)))
    c.arg-3.ensures
