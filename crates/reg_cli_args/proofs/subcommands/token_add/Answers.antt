use Rattle.std.proofs.Common.{[], codes, subst}
use Rattle.std.proofs.lemmas.Result.{IfOk-weaker}
use Rattle.reg_cli_args.specs.Grammar.{level, scope_rules, source_rules}
use Rattle.reg_cli_args.specs.Making.{HasRules}
use Rattle.reg_cli_args.specs.declared.parameters.Words.TheVariants.{Login}
use Rattle.reg_cli_args.proofs.Making.{rules_append}
use Rattle.reg_cli_args.proofs.subcommands.token_add.Goals as goal

pub returns : goal.returns
returns c = IfOk-weaker c.with_source.result _ _
    (λ new h. subst (λ it. HasRules it new) (rules_append (record { top = level c.args.shape (codes "token-add") Login; subs = [] }) scope_rules (source_rules c.args.shape))
    (h _ (c.in_ok-with_scopes.ensures _ c.in_ok-command.ensures)))
    c.with_source.ensures
