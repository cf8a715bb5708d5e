-- A version that is published, of a new crate or of one that is there.
use Rattle.reg_service_requests.proofs.Words.{◌≡◌, ℕ, length, Bool, true, false, not, cond, Option, Some, None, refl, sym, ap, subst, ◌∙◌}
use Rattle.reg_service_requests.proofs.Words.{Vec, unwrap_or, Global, filter, find, list_any, bytes_eq, bytes_eq-Decides, Trees, Limits}
use Rattle.reg_service_requests.proofs.Words.{canon, Rule, collides, versions, viewer, account_of, action_of, Publish, or_else, Publication}
use Rattle.reg_service_requests.proofs.Words.{Registry, Text, holds, broken, is_access_rule, order, has_version, not_denied, not_false}
use Rattle.reg_service_requests.proofs.Words.{any_filter, is_some_find, not_true, true_not_false, Json, AddsFirst, AddsNext, Tells, Stands}
use Rattle.reg_service_requests.proofs.Words.{IsFoundOf, Principal, FoundCrate, IsPrincipal, IsAuthorized, Serves, Served, Done, ReadOnly}
use Rattle.std.proofs.Common.{nat_le, is_some}
use Rattle.std.specs.FinSet as finset
use Rattle.reg_versions.specs.Versions.{release_key_of}
use Rattle.reg_model.specs.declared.rule.Rule.TheVariants as rule
use Rattle.reg_model.specs.Changes.{with_owner, with_publication}
use Rattle.reg_model.specs.Crates.{crates, exists, first, same_release}
use Rattle.reg_model.specs.Effects.{done}
use Rattle.reg_model.specs.Facts.{access_facts, counts}
use Rattle.reg_model.specs.Refusals.{denied}
use Rattle.reg_model.specs.Rules.{access}
use Rattle.reg_model.proofs.Cleared.{Clear}
use Rattle.reg_model.proofs.IndexPaths.{spelled}
use Rattle.reg_model.proofs.Members.{any_in, in_any}
use Rattle.reg_api_replies.specs.Bodies.{publish_body}
use Rattle.reg_api_replies.specs.declared.reply.Reply.TheVariants as reply
use Rattle.reg_tables_represent.specs.Calls.{published}
use Rattle.reg_tables_represent.specs.declared.crates.NewVersion.{NewVersion}
use Rattle.reg_service_requests.specs.Publications.{IsNew, IsOf, MakesCrate, PublishesFirst, PublishesNext, TellsFull, TellsFullOf}
use Rattle.reg_service_requests.proofs.Judging.{denied_by_others, done_served, told_denied}

module _ (limits : Limits) (s : Registry) (d : Text) (p : Publication) where
  -- what is left to deny what the rules on access let pass
  abbrev left : Option Text → Option Rule
  left o = or_else (find (broken limits (access_facts s d (action_of (Publish p))) (counts s (action_of (Publish p))) (action_of (Publish p))) (filter (λ r. not (is_access_rule r)) (order o (action_of (Publish p))))) None

  left_so : (o : Option Text) → first s p.name ≡ o → access (access_facts s d (action_of (Publish p))) (action_of (Publish p)) ≡ None → denied limits s (Some d) (Publish p) ≡ left o
  unfolding access_facts
  left_so o at passes = denied_by_others limits d (Publish p) s passes ∙ ap left at

  first_left : left None ≡ cond (nat_le limits.crates (crates s)) (Some rule.L2) None
  unfolding counts
  first_left = elim (nat_le limits.crates (crates s)) as (λ b. or_else (cond b (Some rule.L2) None) None ≡ cond b (Some rule.L2) None) [ true ↦ refl | false ↦ refl ]

  next_left : (n : Text) → left (Some n) ≡ cond (nat_le limits.versions (length (versions s p.name))) (Some rule.L1) None
  unfolding counts
  next_left n = elim (nat_le limits.versions (length (versions s p.name))) as (λ b. or_else (cond b (Some rule.L1) None) None ≡ cond b (Some rule.L1) None) [ true ↦ refl | false ↦ refl ]

  -- of a crate that is there, in its spelling, a version of another release
  next_clear : (n : Text) → first s p.name ≡ Some n → denied limits s (Some d) (Publish p) ≡ None → (n ≡ p.name) × (list_any (λ q. same_release q.version p.version) (versions s p.name) ≡ false)
  unfolding access_facts
  next_clear n at allowed =
      let all = subst (λ (o : Option Text). Clear (broken limits (access_facts s d (action_of (Publish p))) (counts s (action_of (Publish p))) (action_of (Publish p))) (order o (action_of (Publish p)))) at (not_denied limits s d (Publish p) allowed) in
      ((bytes_eq-Decides n p.name).0 (spelled all.1.1.1.1.1.0), all.1.1.1.1.1.1.1.0)
    where
      spelled : not (holds (λ m. bytes_eq m p.name) (first s p.name)) ≡ false → bytes_eq n p.name ≡ true
      spelled e = ap (holds (λ m. bytes_eq m p.name)) (sym at) ∙ not_false _ e

-- no version of one release, no version of one text
other_version : (s : Registry) (n v : Text) → list_any (λ q. same_release q.version v) (versions s n) ≡ false → has_version s (canon n) v ≡ false
other_version s n v none =
    sym (any_filter (λ q. collides q.name n) (λ q. bytes_eq q.version v) s.publications)
    ∙ not_true _ (λ e. let it = any_in (λ q. bytes_eq q.version v) (versions s n) e in true_not_false _ (in_any (λ q. same_release q.version v) (versions s n) it.0 it.1 (alike it.0.version it.2)) none)
  where
    alike : (w : Text) → bytes_eq w v ≡ true → same_release w v ≡ true
    alike w e = (bytes_eq-Decides (release_key_of w) (release_key_of v)).1 (ap release_key_of ((bytes_eq-Decides w v).0 e))

is_there : (s : Registry) (n : Text) (o : Option Text) → first s n ≡ o → exists s n ≡ is_some o
is_there s n o e = sym (is_some_find (λ q. q.name) (λ q. collides q.name n) s.publications) ∙ ap is_some e

-- the effects
first_done : (s : Registry) (d : Text) (p : Publication) (owner : ℕ) → exists s p.name ≡ false → viewer s d ≡ Some owner → with_owner (canon p.name, owner) (with_publication p s) ≡ done s (account_of s d) (Publish p)
unfolding done
first_done s d p owner none who =
    ap (λ w. with_owner (canon p.name, unwrap_or w 0) (with_publication p s)) (sym who)
    ∙ ap (λ b. record (with_publication p s) { owners = cond b s.owners (finset.insert s.owners (canon p.name, account_of s d)) }) (sym none)

next_done : (s : Registry) (d : Text) (p : Publication) → exists s p.name ≡ true → with_publication p s ≡ done s (account_of s d) (Publish p)
unfolding done
next_done s d p there = ap (λ b. record (with_publication p s) { owners = cond b s.owners (finset.insert s.owners (canon p.name, account_of s d)) }) (sym there)

-- what the tables tell
pub new_crate : (p : Publication) (owner : ℕ) (v : NewVersion) (id : ℕ) (body : Vec _ Global) (old new : Trees) → published p.name v ≡ p → body.items ≡ publish_body → AddsFirst p.name owner v old new id
    → MakesCrate owner p old new (Done (reply.Done Json body))
new_crate p owner v id body old new is text adds limits d who fresh allowed = done_served limits d (Publish p) (reply.Done Json body) old new (λ ids s h.
    let none = is_there s p.name None (fresh ids s h) in (
      allowed ids s h,
      (refl, refl, text),
      subst (λ t. Stands t new) (ap (λ q. with_owner (canon p.name, owner) (with_publication q s)) is ∙ first_done s d p owner none (who ids s h)) (_, (adds ids s h none).1),
    ))

module _ (limits : Limits) (d : Text) (p : Publication) (old : Trees) where
  judged_first : (b : Bool) → TellsFull limits old b → IsNew p old → IsAuthorized d (action_of (Publish p)) old → Tells (λ ids s. denied limits s (Some d) (Publish p) ≡ cond b (Some rule.L2) None) old
  judged_first b full fresh passes ids s h =
      left_so limits s d p None (fresh ids s h) (passes ids s h) ∙ first_left limits s d p ∙ ap (λ b. cond b (Some rule.L2) None) (sym (full ids s h))

  judged_next : (b : Bool) (c : FoundCrate) → TellsFullOf limits c old b → IsOf c p old → IsAuthorized d (action_of (Publish p)) old → Tells (λ ids s. denied limits s (Some d) (Publish p) ≡ cond b (Some rule.L1) None) old
  judged_next b c full of passes ids s h =
      let (at, place) = of ids s h in
      left_so limits s d p (Some c.name) at (passes ids s h) ∙ next_left limits s d p c.name
      ∙ ap (λ t. cond (nat_le limits.versions (length (filter (λ q. bytes_eq (canon q.name) t) s.publications))) (Some rule.L1) None) (sym (spelled s.publications p.name c.name h.sound.publications at).1)
      ∙ ap (λ b. cond b (Some rule.L1) None) (sym (full ids s h place))

-- the first version of a crate
module _ (limits : Limits) (owner : ℕ) (p : Publication) (old : Trees) where
  pub first_refused : TellsFull limits old true → PublishesFirst limits owner p old old (ReadOnly (reply.Denied rule.L2))
  first_refused full d who fresh passes = told_denied limits d (Publish p) rule.L2 old old (judged_first limits d p old true full fresh passes)

  pub first_let : (new : Trees) (it : Served) → TellsFull limits old false → MakesCrate owner p old new it → PublishesFirst limits owner p old new it
  first_let new it full makes d who fresh passes = makes limits d who fresh (judged_first limits d p old false full fresh passes)

-- a further version
module _ (limits : Limits) (p : Publication) (c : FoundCrate) (old : Trees) where
  pub next_refused : TellsFullOf limits c old true → PublishesNext limits c p old old (ReadOnly (reply.Denied rule.L1))
  next_refused full d of passes = told_denied limits d (Publish p) rule.L1 old old (judged_next limits d p old true c full of passes)

  pub next_let : (v : NewVersion) (body : Vec _ Global) (new : Trees) → published p.name v ≡ p → body.items ≡ publish_body → TellsFullOf limits c old false → AddsNext c.id v old new → PublishesNext limits c p old new (Done (reply.Done Json body))
  next_let v body new is text full adds d of passes = done_served limits d (Publish p) (reply.Done Json body) old new (λ ids s h.
      let (at, place) = of ids s h in
      let allowed = judged_next limits d p old false c full of passes ids s h in
      let (same, none) = next_clear limits s d p c.name at allowed in
      let fresh : has_version s (canon p.name) v.text.now ≡ false = ap (λ q. has_version s (canon p.name) q.version) is ∙ other_version s p.name p.version none in (
        allowed,
        (refl, refl, text),
        subst (λ t. Stands t new) (ap (λ q. with_publication q s) is ∙ next_done s d p (is_there s p.name (Some c.name) at)) (_, adds ids s p.name h (place ∙ ap Some same) fresh),
      ))

-- the crate that was found, if one was
module _ (limits : Limits) (principal : Principal) (p : Publication) (old new : Trees) (it : Served) where
  abbrev Granted : Type 0
  Granted = (d : Text) → IsAuthorized d (action_of (Publish p)) old → IsPrincipal d (action_of (Publish p)) principal old → Serves limits (Some d) (Publish p) old new it

  found_is : (o : Option FoundCrate) → principal.found ≡ o → (d : Text) → IsPrincipal d (action_of (Publish p)) principal old → Tells (λ ids s. IsFoundOf ids s (Some p.name) o) old
  found_is o e d who ids s h = subst (λ f. IsFoundOf ids s (Some p.name) f) e (who ids s h).found

  pub of_new : principal.found ≡ None → PublishesFirst limits principal.account p old new it → Granted
  of_new none publishes d passes who = publishes d (λ ids s h. (who ids s h).account) (found_is None none d who) passes

  pub of_known : (c : FoundCrate) → principal.found ≡ Some c → PublishesNext limits c p old new it → Granted
  of_known c some publishes d passes who = publishes d (λ ids s h. let is = found_is (Some c) some d who ids s h in (is.first, is.placed)) passes
