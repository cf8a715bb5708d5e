-- A version that was found is yanked, or no longer.
use Rattle.reg_service_requests.proofs.Words.{◌≡◌, Bool, true, false, not, cond, Option, Some, None, refl, sym, ap, subst, ◌∙◌, Vec, Global}
use Rattle.reg_service_requests.proofs.Words.{list_any, bytes_eq, Trees, Limits, canon, name_of, crate_of, collides, versions, viewer}
use Rattle.reg_service_requests.proofs.Words.{account_of, served, action_of, lists, Registry, Text, holds, has_version, not_denied}
use Rattle.reg_service_requests.proofs.Words.{not_false, any_filter, Says, Json, Stands, IsCrateOf, FoundCrate, IsCrate, IsAuthorized, marking}
use Rattle.reg_service_requests.proofs.Words.{Serves, Done, spelled_as}
use Rattle.reg_model.specs.Changes.{with_yanked}
use Rattle.reg_model.specs.Crates.{visible}
use Rattle.reg_model.specs.Effects.{done}
use Rattle.reg_model.specs.Facts.{access_facts}
use Rattle.reg_model.specs.Refusals.{denied}
use Rattle.reg_model.specs.Rules.{access}
use Rattle.reg_model.proofs.SoundOwners.{crate_there}
use Rattle.reg_api_replies.specs.Bodies.{ok_body}
use Rattle.reg_api_replies.specs.declared.reply.Reply.TheVariants as reply
use Rattle.reg_tables_represent.specs.Calls.{SetsYanked}
use Rattle.reg_tables_represent.specs.Changes.{if_there, with_mark}
use Rattle.reg_service_requests.proofs.Judging.{denied_by_others, done_served}

-- a version that is not missing is there
published : (s : Registry) (d n v : Text) → not (holds (visible s d) (name_of n)) ≡ false → not (list_any (λ p. bytes_eq p.version v) (lists (versions s) (name_of n))) ≡ false → has_version s (canon n) v ≡ true
published s d n v seen has =
    sym (any_filter (λ p. collides p.name n) (λ p. bytes_eq p.version v) s.publications)
    ∙ ap (λ o. list_any (λ p. bytes_eq p.version v) (lists (versions s) o)) (sym (crate_there s d n seen).0) ∙ not_false _ has

let_so : (limits : Limits) (s : Registry) (d n v : Text) (b : Bool) → access (access_facts s d (action_of (marking b n v))) (action_of (marking b n v)) ≡ None → denied limits s (Some d) (marking b n v) ≡ None
let_so limits s d n v true passes = denied_by_others limits d (marking true n v) s passes
let_so limits s d n v false passes = denied_by_others limits d (marking false n v) s passes

pub is_published : (limits : Limits) (s : Registry) (d n v : Text) (b : Bool) → denied limits s (Some d) (marking b n v) ≡ None → has_version s (canon n) v ≡ true
unfolding access_facts
is_published limits s d n v true allowed = let all = not_denied limits s d (marking true n v) allowed in published s d n v all.1.1.1.1.0 all.1.1.1.1.1.1.1.0
is_published limits s d n v false allowed = let all = not_denied limits s d (marking false n v) allowed in published s d n v all.1.1.1.1.0 all.1.1.1.1.1.1.1.0

marked_so : (s : Registry) (d n v m : Text) (o : Option Text) (b : Bool) → o ≡ Some m → canon m ≡ canon n → has_version s (canon n) v ≡ true → if_there o (with_mark v b) s ≡ done s (account_of s d) (marking b n v)
unfolding done
marked_so s d n v m o b at same has = ap (λ it. if_there it (with_mark v b) s) at ∙ ap (λ c. cond (has_version s c v) (with_yanked b (c, v) s) s) same ∙ ap (λ h. cond h (with_yanked b (canon n, v) s) s) has ∙ as_done b
  where
    as_done : (b : Bool) → with_yanked b (canon n, v) s ≡ done s (account_of s d) (marking b n v)
    as_done true = refl
    as_done false = refl

says_ok : (b : Bool) (s : Registry) (d n v : Text) (body : Vec _ Global) → body.items ≡ ok_body → Says (marking b n v) (served s (viewer s d) (marking b n v)) (reply.Done Json body)
says_ok true s d n v body is = (refl, refl, is)
says_ok false s d n v body is = (refl, refl, is)

pub named_in : (b : Bool) (n v : Text) → crate_of (action_of (marking b n v)) ≡ name_of n
named_in true n v = refl
named_in false n v = refl

pub marked : (limits : Limits) (d n v : Text) (b : Bool) (c : FoundCrate) (body : Vec _ Global) (old new : Trees) → body.items ≡ ok_body → SetsYanked c.id v b old new → IsAuthorized d (action_of (marking b n v)) old → IsCrate (action_of (marking b n v)) c old → Serves limits (Some d) (marking b n v) old new (Done (reply.Done Json body))
marked limits d n v b c body old new is sets passes its = done_served limits d (marking b n v) (reply.Done Json body) old new (λ ids s h.
    let allowed = let_so limits s d n v b (passes ids s h) in
    let (m, at, same) = (spelled_as ids s c n (subst (λ o. IsCrateOf ids s o c) (named_in b n v) (its ids s h))).1 in
    (allowed, says_ok b s d n v body is, subst (λ t. Stands t new) (marked_so s d n v m _ b at same (is_published limits s d n v b allowed)) (ids, sets ids s h)))
