-- A request that is decided, and what is let pass by another name of it.
use Rattle.reg_service_requests.proofs.Words.{◌≡◌, Bool, true, false, Option, None, Some, Ok, Err, Result, refl, sym, ap, subst, ◌∙◌, ℕ}
use Rattle.reg_service_requests.proofs.Words.{unwrap_or, find, filter, Trees, Ghosts, Limits, Rule, crate_of, caller, served, Asked}
use Rattle.reg_service_requests.proofs.Words.{action_of, fault_of, Malformed, Read, Ask, Search, or_else, Registry, Text, broken}
use Rattle.reg_service_requests.proofs.Words.{is_access_rule, order, Outcome, outcome, unless_denied, IsFoundOf, IsIdOf, version_named}
use Rattle.reg_service_requests.proofs.Words.{Principal, FoundCrate, IsPolicy, asked_of, Denied, Tells, StoreFault, Work, IsAuthorized, Serves}
use Rattle.reg_service_requests.proofs.Words.{TellsIf, TellsLine, called_ok, rows_seen, Served, Seeks, ReadOnly}
use Rattle.std.specs.Prelude.{not}
use Rattle.reg_model.specs.declared.rule.Rule.TheVariants as rule
use Rattle.reg_model.specs.Actions.{Action}
use Rattle.reg_model.specs.Actions.Action.{Read as to_read}
use Rattle.reg_model.specs.Effects.{done}
use Rattle.reg_model.specs.Events.Answer.{Denied as to_denied}
use Rattle.reg_model.specs.Facts.{access_facts, counts}
use Rattle.reg_model.specs.Laws.{AccessComesFirst}
use Rattle.reg_model.specs.Refusals.{denied, judged}
use Rattle.reg_model.specs.Rules.{access, verdict}
use Rattle.reg_policy.specs.declared.action.Decision.TheVariants.{Allowed, Denied as denies}
use Rattle.reg_policy.specs.declared.event.Asked.{Asked as Wanted}
use Rattle.reg_policy.specs.Views.{decision_of}
use Rattle.reg_service_requests.specs.Granted.{Grants, GrantsOf, GrantsTo, GrantsVersion}
use Rattle.reg_service_steps.specs.Named.{IsViewer}
use Rattle.reg_service_requests.specs.Telling.{GrantsTold, IsUntold, ServesTold}
use Rattle.reg_access.proofs.Calls.{called_err}
use Rattle.reg_service_requests.proofs.Asking.{is_change, nothing_told}
use Rattle.reg_service_requests.specs.declared.told.TracedServed.{TracedServed}
use Rattle.reg_service_requests.proofs.ReplyLines.{nobody_told}

-- no token was shown
no_token_at : (limits : Limits) (asked : Asked) (db : Trees) → Serves limits None asked db db (ReadOnly (Denied rule.A1))
unfolding denied
no_token_at limits asked db ids s h = (refl, refl)

no_token : (limits : Limits) (d : Option Text) (asked : Asked) (db : Trees) → d ≡ None → Serves limits d asked db db (ReadOnly (Denied rule.A1))
no_token limits d asked db e = subst (λ it. Serves limits it asked db db (ReadOnly (Denied rule.A1))) (sym e) (no_token_at limits asked db)

-- some token was
pub with_token : (traced : Bool) (limits : Limits) (d : Option Text) (digest : Text) (asked : Asked) (old new : Trees) (it : TracedServed) → d ≡ Some digest → ServesTold traced limits (Some digest) asked old new it → ServesTold traced limits d asked old new it
with_token traced limits d digest asked old new it e h = subst (λ x. ServesTold traced limits x asked old new it) (sym e) h

-- it breaks a rule
pub is_denied : (limits : Limits) (s : Registry) (digest : Option Text) (asked : Asked) (r : Rule) → denied limits s digest asked ≡ Some r → outcome limits s (Ask digest asked) ≡ (to_denied r, s)
is_denied limits s digest asked r e = ap (λ it. unless_denied s it (served s (caller s digest) asked, done s (unwrap_or (caller s digest) 0) asked)) e

rule_of : (o : Option Rule) (r : Rule) → denies r ≡ decision_of o → o ≡ Some r
rule_of None r e = absurd cc e
rule_of (Some x) r e = ap (λ it. Some it) (sym (cc e))

none_of : (o : Option Rule) → Allowed ≡ decision_of o → o ≡ None
none_of None e = refl
none_of (Some x) e = absurd cc e

-- the rules on access do not let it pass
is_first : AccessComesFirst → (limits : Limits) (digest : Text) (asked : Asked) (db : Trees) (r : Rule) → IsPolicy digest (action_of asked) db (denies r) → Tells (λ ids s. denied limits s (Some digest) asked ≡ Some r) db
unfolding denied
is_first law limits digest asked db r policy ids s h =
    let a = action_of asked in
    let is = rule_of _ r (policy ids s h) in
    let first : judged limits s digest a ≡ Some r = law limits (access_facts s digest a) (counts s a) a
    ∙ ap (λ o. or_else o (find (broken limits (access_facts s digest a) (counts s a) a) (filter (λ it. not (is_access_rule it)) (order (access_facts s digest a).first a)))) is in
    ap (λ o. or_else o (fault_of asked)) first

not_let : AccessComesFirst → (limits : Limits) (digest : Text) (asked : Asked) (db : Trees) (r : Rule) → IsPolicy digest (action_of asked) db (denies r) → Serves limits (Some digest) asked db db (ReadOnly (Denied r))
not_let law limits digest asked db r policy ids s h =
    let e = is_denied limits s (Some digest) asked r (is_first law limits digest asked db r policy ids s h) in
    (ap (λ (it : Outcome). it.0) e, ap (λ (it : Outcome). it.1) e)

no_rule : (r : Rule) → ◌≡◌ {A = Option Rule} (Some r) None → ⊥
no_rule r e = cc

not_told : AccessComesFirst → (limits : Limits) (digest : Text) (asked : Asked) (db : Trees) (r : Rule) → IsPolicy digest (action_of asked) db (denies r) → TellsLine limits (Ask (Some digest) asked) db None
not_told law limits digest asked db r policy ids s h ok = absurd (no_rule r (sym (is_first law limits digest asked db r policy ids s h) ∙ ok))

-- a denial has no line
module _ (traced : Bool) (limits : Limits) (d : Option Text) (asked : Asked) (db : Trees) (r : Rule) (it : TracedServed) (served : it.served ≡ ReadOnly (Denied r)) (line : it.line ≡ None) where
  denial : Serves limits d asked db db (ReadOnly (Denied r)) → TellsLine limits (Ask d asked) db None → ServesTold traced limits d asked db db it
  denial serves tells = (subst (Serves limits d asked db db) (sym served) serves, subst (TellsIf traced limits (Ask d asked) db) (sym line) (by traced))
    where
      by : (b : Bool) → TellsIf b limits (Ask d asked) db None
      by true = tells
      by false = refl

pub no_token_told : (traced : Bool) (limits : Limits) (d : Option Text) (asked : Asked) (db : Trees) (it : TracedServed) → it.served ≡ ReadOnly (Denied rule.A1) → it.line ≡ None → d ≡ None → ServesTold traced limits d asked db db it
no_token_told traced limits d asked db it served line e =
    denial traced limits d asked db rule.A1 it served line (no_token limits d asked db e) (subst (λ x. TellsLine limits (Ask x asked) db None) (sym e) (nobody_told limits asked db))

pub denied_told : AccessComesFirst → (traced : Bool) (limits : Limits) (d : Option Text) (digest : Text) (asked : Asked) (db : Trees) (r : Rule) (it : TracedServed) → it.served ≡ ReadOnly (Denied r) → it.line ≡ None → d ≡ Some digest → IsPolicy digest (action_of asked) db (denies r) → ServesTold traced limits d asked db db it
denied_told law traced limits d digest asked db r it served line e policy =
    with_token traced limits d digest asked db db it e
    (denial traced limits (Some digest) asked db r it served line (not_let law limits digest asked db r policy) (not_told law limits digest asked db r policy))

-- or they do
pub is_let : (digest : Text) (a : Action) (db : Trees) → IsPolicy digest a db Allowed → IsAuthorized digest a db
is_let digest a db policy ids s h = none_of _ (policy ids s h)

-- reading asks only the rules on access
pub read_judged : (limits : Limits) (s : Registry) (digest : Text) → access (access_facts s digest to_read) to_read ≡ None → judged limits s digest to_read ≡ None
unfolding access verdict
read_judged limits s digest e = e

-- what the body or the query breaks comes after them
pub malformed : (limits : Limits) (digest : Text) (r : Rule) (db : Trees) → IsAuthorized digest to_read db → Serves limits (Some digest) (Malformed r) db db (ReadOnly (Denied r))
unfolding denied
malformed limits digest r db lets ids s h =
    let e = is_denied limits s (Some digest) (Malformed r) r (ap (λ o. or_else o (Some r)) (read_judged limits s digest (lets ids s h))) in
    (ap (λ (it : Outcome). it.0) e, ap (λ (it : Outcome). it.1) e)

-- and has no line
pub malformed_told : (traced : Bool) (limits : Limits) (digest : Text) (r : Rule) (db : Trees) (it : TracedServed) → it.served ≡ ReadOnly (Denied r) → it.line ≡ None → IsAuthorized digest to_read db → ServesTold traced limits (Some digest) (Malformed r) db db it
malformed_told traced limits digest r db it served line lets =
    (subst (Serves limits (Some digest) (Malformed r) db db) (sym served) (malformed limits digest r db lets), nothing_told traced limits digest (Malformed r) db it.line line refl)

-- a search is let pass
pub seeks : (limits : Limits) (digest q : Text) (most id : ℕ) (db : Trees) → IsViewer digest id db → IsAuthorized digest to_read db → Serves limits (Some digest) (Read (Search q most)) db db (Seeks id)
unfolding denied done
seeks limits digest q most id db finds lets ids s h =
    ap (λ it. unless_denied s it (served s (caller s (Some digest)) (Read (Search q most)), s)) (ap (λ o. or_else o None) (read_judged limits s digest (lets ids s h)))
    ∙ ap (λ who. (served s who (Read (Search q most)), s)) (finds ids s h)

module _ {S : Type 0} (g : Ghosts S) (limits : Limits) (principal : Principal) (asked given : Wanted) (same : asked ≡ given) (r : Result Served StoreFault) (old new : Work S) where
  pub as_given : GrantsTo limits principal g (asked_of given) r old new → GrantsTo limits principal g (asked_of asked) r old new
  as_given h = subst (λ it. GrantsTo limits principal g (asked_of it) r old new) (sym same) h

  -- to any caller
  to_any : (r : Result Served StoreFault) (it : Asked) → Grants g it r old new → GrantsTo limits principal g it r old new
  to_any (Ok x) it h = record { told = λ clean digest lets who. h.told clean limits digest lets; leaves = h.leaves }
  to_any (Err e) it h = record { told = λ clean. tt; leaves = h.leaves }

  pub always_given : Grants g (asked_of given) r old new → GrantsTo limits principal g (asked_of asked) r old new
  always_given h = as_given (to_any r (asked_of given) h)

  -- of the crate that was found
  of_crate : (r : Result Served StoreFault) (it : Text → Asked) (text : Text) (c : FoundCrate) → principal.found ≡ Some c → GrantsOf c g it r old new → GrantsTo limits principal g (it text) r old new
  of_crate (Ok x) it text c found h = record {
    told = λ clean digest lets who. h.told clean text limits digest lets (λ ids s holds. subst (λ f. IsFoundOf ids s (crate_of (action_of (it text))) f) found (who ids s holds).found);
    leaves = h.leaves;
  }
  of_crate (Err e) it text c found h = record { told = λ clean. tt; leaves = h.leaves }

  -- of the version that was found
  of_version : (r : Result Served StoreFault) (it : Text → Text → Asked) (n v : Text) (id : ℕ) → principal.version ≡ Some id → GrantsVersion id g it r old new → GrantsTo limits principal g (it n v) r old new
  of_version (Ok x) it n v id found h = record {
    told = λ clean digest lets who. h.told clean n v limits digest lets (λ ids s holds. subst (IsIdOf ids (version_named s (action_of (it n v)))) found (who ids s holds).version);
    leaves = h.leaves;
  }
  of_version (Err e) it n v id found h = record { told = λ clean. tt; leaves = h.leaves }

  pub version_given : (it : Text → Text → Asked) (n v : Text) (id : ℕ) → asked_of given ≡ it n v → principal.version ≡ Some id → GrantsVersion id g it r old new → GrantsTo limits principal g (asked_of asked) r old new
  version_given it n v id is found h = as_given (subst (λ a. GrantsTo limits principal g a r old new) (sym is) (of_version r it n v id found h))

  pub crate_given : (it : Text → Asked) (text : Text) (c : FoundCrate) → asked_of given ≡ it text → principal.found ≡ Some c → GrantsOf c g it r old new → GrantsTo limits principal g (asked_of asked) r old new
  crate_given it text c is found h = as_given (subst (λ a. GrantsTo limits principal g a r old new) (sym is) (of_crate r it text c found h))

-- the same of an outcome with its line
module _ {S : Type 0} (g : Ghosts S) (traced : Bool) (limits : Limits) (principal : Principal) (asked given : Wanted) (same : asked ≡ given) (q : Result TracedServed StoreFault) (old new : Work S) where
  pub told_given : GrantsTold traced limits principal g (asked_of given) q old new → GrantsTold traced limits principal g (asked_of asked) q old new
  told_given h = subst (λ it. GrantsTold traced limits principal g (asked_of it) q old new) (sym same) h

  without_line : (r : Result Served StoreFault) (q : Result TracedServed StoreFault) (it : Asked) → IsUntold r q → is_change it ≡ false → GrantsTo limits principal g it r old new → GrantsTold traced limits principal g it q old new
  without_line (Ok x) q it is reads h = subst (λ q. GrantsTold traced limits principal g it q old new) (sym is) (record {
    told = λ clean digest lets who. (h.told clean digest lets who, nothing_told traced limits digest it (rows_seen g old) None refl reads);
    leaves = called_ok g x (record { served = x; line = None }) old new h.leaves;
  })
  without_line (Err e) q it is reads h = subst (λ q. GrantsTold traced limits principal g it q old new) (sym is) (record { told = λ clean. tt; leaves = called_err g e e old new h.leaves })

  -- one that only reads has none
  pub untold_given : (r : Result Served StoreFault) → IsUntold r q → is_change (asked_of given) ≡ false → GrantsTo limits principal g (asked_of asked) r old new → GrantsTold traced limits principal g (asked_of asked) q old new
  untold_given r is reads h = without_line r q (asked_of asked) is (ap (λ it. is_change (asked_of it)) same ∙ reads) h
