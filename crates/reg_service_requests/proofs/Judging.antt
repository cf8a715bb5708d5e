-- From what denies a request, or does not, to what it is answered.
use Rattle.reg_service_requests.proofs.Words.{◌≡◌, Option, Some, None, not, sym, ap, subst, ◌∙◌, filter, find, Trees, Limits, Rule, viewer}
use Rattle.reg_service_requests.proofs.Words.{account_of, served, Asked, action_of, fault_of, Ask, or_else, Registry, Text, broken}
use Rattle.reg_service_requests.proofs.Words.{is_access_rule, order, Outcome, outcome, unless_denied, Says, Reply, Tells, Stands, Serves}
use Rattle.reg_service_requests.proofs.Words.{Done, ReadOnly}
use Rattle.reg_model.specs.Effects.{done}
use Rattle.reg_model.specs.Facts.{access_facts, counts}
use Rattle.reg_model.specs.Refusals.{denied}
use Rattle.reg_model.specs.Rules.{access}
use Rattle.reg_model.proofs.Denials.{access_first}
use Rattle.reg_api_replies.specs.declared.reply.Reply.TheVariants as reply

module _ (limits : Limits) (digest : Text) (asked : Asked) where
  -- the first broken rule but those on access
  abbrev pub others : Registry → Option Rule
  others s = find (broken limits (access_facts s digest (action_of asked)) (counts s (action_of asked)) (action_of asked)) (filter (λ r. not (is_access_rule r)) (order (access_facts s digest (action_of asked)).first (action_of asked)))

  -- what the rules on access let pass, the others may deny
  pub denied_by_others : (s : Registry) → access (access_facts s digest (action_of asked)) (action_of asked) ≡ None → denied limits s (Some digest) asked ≡ or_else (others s) (fault_of asked)
  unfolding denied
  denied_by_others s passes = ap (λ r. or_else r (fault_of asked)) (access_first limits (access_facts s digest (action_of asked)) (counts s (action_of asked)) (action_of asked) ∙ ap (λ r. or_else r (others s)) passes)

  pub answered : (s : Registry) (r : Option Rule) → denied limits s (Some digest) asked ≡ r → outcome limits s (Ask (Some digest) asked) ≡ unless_denied s r (served s (viewer s digest) asked, done s (account_of s digest) asked)
  answered s r e = ap (λ r. unless_denied s r (served s (viewer s digest) asked, done s (account_of s digest) asked)) e

  -- it is denied
  pub told_denied : (r : Rule) (old new : Trees) → Tells (λ ids s. denied limits s (Some digest) asked ≡ Some r) old → Serves limits (Some digest) asked old new (ReadOnly (reply.Denied r))
  told_denied r old new why ids s h = let e = answered s (Some r) (why ids s h) in (ap (λ (o : Outcome). o.0) e, ap (λ (o : Outcome). o.1) e)

  -- it is served, and nothing is done
  pub told_served : (it : Reply) (old new : Trees) → Tells (λ ids s. (denied limits s (Some digest) asked ≡ None) × Says asked (served s (viewer s digest) asked) it × (done s (account_of s digest) asked ≡ s)) old → Serves limits (Some digest) asked old new (ReadOnly it)
  told_served it old new what ids s h =
      let w = what ids s h in
      let e = answered s None w.0 in
      (subst (λ (o : Outcome). Says asked o.0 it) (sym e) w.1, ap (λ (o : Outcome). o.1) e ∙ w.2)

  -- it is done
  pub done_served : (it : Reply) (old new : Trees) → Tells (λ ids s. (denied limits s (Some digest) asked ≡ None) × Says asked (served s (viewer s digest) asked) it × Stands (done s (account_of s digest) asked) new) old → Serves limits (Some digest) asked old new (Done it)
  done_served it old new what ids s h =
      let w = what ids s h in
      let e = answered s None w.0 in
      (subst (λ (o : Outcome). Says asked o.0 it) (sym e) w.1, subst (λ (o : Outcome). Stands o.1 new) (sym e) w.2)
