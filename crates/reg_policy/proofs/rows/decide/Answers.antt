use Rattle.std.proofs.Common.{◌≡◌, ◌∙◌, ap, sym, subst}
use Rattle.reg_model.specs.Rules.{verdict}
use Rattle.reg_policy.specs.Views.{action_of, counts_of, decision_of}
use Rattle.reg_policy.proofs.RowFacts.{judged_by_rows}
use Rattle.reg_policy.proofs.rows.decide.Goals as goal

by_rows : goal.returns-clause-facts
by_rows c =
    c.first_broken.ensures.counted c.args.rows.now.limits.now (counts_of c.args.rows.now (action_of c.args.action.now)) c.facts_of.ensures.counts
    ∙ ap (λ x. decision_of (verdict c.args.rows.now.limits.now x (counts_of c.args.rows.now (action_of c.args.action.now)) (action_of c.args.action.now))) c.facts_of.ensures.access

pub returns-clause-facts : goal.returns-clause-facts
returns-clause-facts c = by_rows c

pub returns-clause-policy : goal.returns-clause-policy
returns-clause-policy c limits s digest h = by_rows c ∙ ap decision_of (judged_by_rows limits s digest (action_of c.args.action.now) c.args.rows.now h)
