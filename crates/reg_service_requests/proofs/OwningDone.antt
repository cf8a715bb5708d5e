-- Requests that change owners are denied or done, where the rules on access let them pass.
use Rattle.reg_service_requests.proofs.Words.{◌≡◌, ℕ, List, [], ◌∷◌, ◌++◌, Bool, true, false, cond, Option, Some, None, Ok, Err, refl, sym}
use Rattle.reg_service_requests.proofs.Words.{ap, subst, ◌∙◌, Vec, unwrap_or, Global, find, Trees, Limits, canon, is_name, name_of, Rule}
use Rattle.reg_service_requests.proofs.Words.{crate_of, owners, caller, served, action_of, lists, or_else, Registry, Text, broken, Sound}
use Rattle.reg_service_requests.proofs.Words.{Outcome, unless_denied, Says, Reply, Denied, StandsSoundBy, IdAssignment, Stands, StandsBy, IsCrateOf}
use Rattle.reg_service_requests.proofs.Words.{FoundCrate, IsCrate, IsAuthorized, IsSpelled, DoesOwning, FindsOwners, leaving_rule, owning}
use Rattle.reg_service_requests.proofs.Words.{with_owners, Serves, Served, Done, Seeks, Sends, ReadOnly, spelled_as}
use Rattle.std.specs.Prelude.{map}
use Rattle.std.specs.FinSet as finset
use Rattle.reg_model.specs.declared.rule.Rule.TheVariants as rule
use Rattle.reg_model.specs.Effects.{done}
use Rattle.reg_model.specs.Facts.{access_facts, counts}
use Rattle.reg_model.specs.Refusals.{denied}
use Rattle.reg_model.specs.Registry.{ids_of}
use Rattle.reg_model.specs.Rules.{access, verdict}
use Rattle.reg_model.proofs.SoundOwners.{add_keeps_sound, remove_keeps_sound}
use Rattle.reg_service_requests.specs.Owning.{SaysOwning, logins_rule}

-- a rule behind those that are kept
find_past : {X : Type 0} (p : X → Bool) (xs ys : List X) → find p xs ≡ None → find p (xs ++ ys) ≡ find p ys
find_past p [] ys e = refl
find_past p (x ∷ xs) ys e = by (p x) (find_past p xs ys) e
  where
    by : (b : Bool) → (find p xs ≡ None → find p (xs ++ ys) ≡ find p ys) → cond b (Some x) (find p xs) ≡ None → cond b (Some x) (find p (xs ++ ys)) ≡ find p ys
    by true rest f = cc
    by false rest f = rest f

else_none : (r : Option Rule) → or_else r None ≡ r
else_none None = refl
else_none (Some r) = refl

pub named_in : (are : Bool) (n : Text) (logins : List Text) → crate_of (action_of (owning are n logins)) ≡ name_of n
named_in true n logins = refl
named_in false n logins = refl

denied_by : (limits : Limits) (are : Bool) (s : Registry) (digest n : Text) (logins : List Text) → name_of n ≡ Some n → access (access_facts s digest (action_of (owning are n logins))) (action_of (owning are n logins)) ≡ None → denied limits s (Some digest) (owning are n logins) ≡ logins_rule are s n logins
unfolding denied verdict access counts
denied_by limits true s digest n logins name lets =
    else_none _ ∙ find_past (broken limits (access_facts s digest (action_of (owning true n logins))) (counts s (action_of (owning true n logins))) (action_of (owning true n logins))) (rule.A2 ∷ rule.A3 ∷ rule.A4 ∷ rule.A6 ∷ rule.A8 ∷ rule.A7 ∷ rule.A9 ∷ []) (rule.O2 ∷ []) lets
denied_by limits false s digest n logins name lets =
    else_none _ ∙ find_past (broken limits (access_facts s digest (action_of (owning false n logins))) (counts s (action_of (owning false n logins))) (action_of (owning false n logins))) (rule.A2 ∷ rule.A3 ∷ rule.A4 ∷ rule.A6 ∷ rule.A8 ∷ rule.A7 ∷ rule.A9 ∷ []) (rule.O3 ∷ rule.O4 ∷ []) lets
    ∙ ap (λ o. leaving_rule (lists (owners s) o) logins) name

keeps_sound : (limits : Limits) (are : Bool) (s : Registry) (digest n : Text) (logins : List Text) → Sound s → denied limits s (Some digest) (owning are n logins) ≡ None → Sound (with_owners are n (ids_of s logins) s)
unfolding done
keeps_sound limits true s digest n logins sound free = add_keeps_sound limits s digest n logins sound free
keeps_sound limits false s digest n logins sound free = remove_keeps_sound limits s digest n logins sound free

is_done : (are : Bool) (s : Registry) (who : ℕ) (n : Text) (logins : List Text) → with_owners are n (ids_of s logins) s ≡ done s who (owning are n logins)
unfolding done
is_done true s who n logins = refl
is_done false s who n logins = refl

is_granted : (are : Bool) (s : Registry) (who : Option ℕ) (n : Text) (logins : List Text) (reply : Reply) → SaysOwning are reply → Says (owning are n logins) (served s who (owning are n logins)) reply
is_granted true s who n logins reply says = says n logins
is_granted false s who n logins reply says = says n logins

-- the same crate by another spelling
same_owners : (are : Bool) (n m : Text) (accounts : List ℕ) (s : Registry) → canon n ≡ canon m → with_owners are n accounts s ≡ with_owners are m accounts s
same_owners true n m accounts s same = ap (λ c. record s { owners = finset.union s.owners (finset.from_list (map (λ id. (c, id)) accounts)) }) same
same_owners false n m accounts s same = ap (λ c. record s { owners = finset.difference s.owners (finset.from_list (map (λ id. (c, id)) accounts)) }) same

module _ (limits : Limits) (digest : Text) (are : Bool) (name : Text) (logins : List Text) (old : Trees) (let_pass : IsAuthorized digest (action_of (owning are name logins)) old) (c : FoundCrate) (its : IsCrate (action_of (owning are name logins)) c old) where
  spelled : (ids : IdAssignment) (s : Registry) → StandsSoundBy ids s old → (is_name name ≡ true) × IsSpelled ids name c.id
  spelled ids s h = spelled_as ids s c name (subst (λ o. IsCrateOf ids s o c) (named_in are name logins) (its ids s h))

  judged : (ids : IdAssignment) (s : Registry) (h : StandsSoundBy ids s old) → denied limits s (Some digest) (owning are name logins) ≡ logins_rule are s name logins
  judged ids s h = denied_by limits are s digest name logins (ap (λ b. cond b (Some name) None) (spelled ids s h).0) (let_pass ids s h)

  pub owning_denied : (r : Rule) → FindsOwners are c.id logins old (Err r) → Serves limits (Some digest) (owning are name logins) old old (ReadOnly (Denied r))
  owning_denied r finds ids s h =
      let why = judged ids s h ∙ finds ids s h name (spelled ids s h).1 in
      let rest : Outcome = (served s (caller s (Some digest)) (owning are name logins), done s (unwrap_or (caller s (Some digest)) 0) (owning are name logins)) in
      (ap (λ o. (unless_denied s o rest).0) why, ap (λ o. (unless_denied s o rest).1) why)

  pub owning_done : (accounts : Vec ℕ Global) (new : Trees) (it : Served) → FindsOwners are c.id logins old (Ok accounts) → DoesOwning are c.id accounts.items old new it → Serves limits (Some digest) (owning are name logins) old new it
  owning_done accounts new (ReadOnly reply) finds does = absurd does
  owning_done accounts new (Seeks account) finds does = absurd does
  owning_done accounts new (Sends file) finds does = absurd does
  owning_done accounts new (Done reply) finds does = λ ids s h.
      let is = (spelled ids s h).1 in
      let (n, at, same) = is in
      let it = finds ids s h name is in
      let free = judged ids s h ∙ it.0 in
      let whole = same_owners are n name accounts.items s same ∙ ap (λ xs. with_owners are name xs s) it.1 in
      let stands : StandsBy ids (with_owners are n accounts.items s) new = does.1 ids s n h at (subst Sound (sym whole) (keeps_sound limits are s digest name logins h.sound free)) in
      let rest : Outcome = (served s (caller s (Some digest)) (owning are name logins), done s (unwrap_or (caller s (Some digest)) 0) (owning are name logins)) in
      subst (λ o. Says (owning are name logins) (unless_denied s o rest).0 reply × Stands (unless_denied s o rest).1 new) (sym free)
      (is_granted are s (caller s (Some digest)) name logins reply does.0, (ids, subst (λ t. StandsBy ids t new) (whole ∙ is_done are s (unwrap_or (caller s (Some digest)) 0) name logins) stands))
