use Rattle.std.proofs.Common.{◌∙◌, ap, rules}
use Rattle.std.specs.List.{find}
use Rattle.reg_policy.specs.Facts.{is_broken, spelling_in}
use Rattle.reg_policy.specs.Views.{action_of, decision_of}
use Rattle.reg_policy.proofs.FactLemmas.{first_counted, first_uncounted}
use Rattle.reg_policy.proofs.deciding.first_broken.Goals as goal

pub returns-clause-counted : goal.returns-clause-counted
returns-clause-counted c limits k h =
    c.first_among.ensures
    ∙ ap (λ rs. decision_of (find (is_broken c.args.facts.now (action_of c.args.action.now)) rs)) (c.rules_in_order.ensures (spelling_in c.args.facts.now) (search rules))
    ∙ ap decision_of (first_counted limits k c.args.facts.now (action_of c.args.action.now) h)

pub returns-clause-uncounted : goal.returns-clause-uncounted
returns-clause-uncounted c h =
    c.first_among.ensures
    ∙ ap (λ rs. decision_of (find (is_broken c.args.facts.now (action_of c.args.action.now)) rs)) (c.rules_in_order.ensures (spelling_in c.args.facts.now) (search rules))
    ∙ ap decision_of (first_uncounted c.args.facts.now (action_of c.args.action.now) h)
