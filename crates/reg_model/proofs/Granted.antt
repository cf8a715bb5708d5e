-- The report on grants lists exactly what the rules on access let pass.
use Rattle.reg_model.proofs.Words.{◌≡◌, inl, inr, ℕ, List, [], ◌∷◌, Bool, true, false, cond, Option, Some, None, refl, sym, ◌∙◌, ap, subst}
use Rattle.reg_model.proofs.Words.{◌&&◌, ◌||◌, if◌then◌else◌, is_some, not, unwrap_or, AllByRecursion, enumerate_from, filter, find}
use Rattle.reg_model.proofs.Words.{list_any, on, option_map, bytes_eq, and_parts, and_from, bytes_eq-Decides, canon, is_name, name_of}
use Rattle.reg_model.proofs.Words.{covers, has_star, prefix_of, Endpoint, Rule, IsIn, Text, Token, Registry, holds, is_enabled, token_of}
use Rattle.reg_model.proofs.Words.{with_id, collides, exists, first, has_crate, is_among, is_reserved_always, owners, owns, sees, visible}
use Rattle.reg_model.proofs.Words.{Action, crate_of, endpoints_of, lists, spelling, breaks, order, is_granted, Sound}
use Rattle.std.specs.Prelude.{◌==◌, nat_eq}
use Rattle.std.specs.List.{starts_with}
use Rattle.std.specs.FinSet as finset
use Rattle.reg_names.specs.declared.endpoint.Endpoint.TheVariants as endpoint
use Rattle.reg_model.specs.declared.rule.Rule.TheVariants as rule
use Rattle.reg_model.specs.Crates.{is_reserved}
use Rattle.reg_model.specs.Actions.Action.{Read, Index, Download, ListOwners, Publish, Yank, Unyank, AddOwners, RemoveOwners}
use Rattle.reg_model.specs.Facts.{access_facts}
use Rattle.reg_model.specs.Rules.{has_endpoint, lacks, needed}
use Rattle.reg_model.specs.Grants.{grants, has_right}
use Rattle.reg_model.specs.Laws.{GrantsArePolicy, MayAsk, grant_rules}
use Rattle.reg_model.proofs.GrantLists.{grant_listed, listed_grant, with_id_in}
use Rattle.reg_model.proofs.IndexPaths.{not_false, spelled, the_some}
use Rattle.reg_model.proofs.Lists.{any_filter, is_some_find, or_left, or_right, true_not_false}
use Rattle.reg_model.proofs.Members.{all_in, any_in, each_in, in_each, one_of}
use Rattle.reg_model.proofs.SoundCommands.{digests-equivalence}

not_true_so : (b : Bool) → not b ≡ true → b ≡ false
not_true_so true e = cc
not_true_so false e = refl

-- what alone passes is found
found_one : {X : Type 0} (p : X → Bool) (xs : List X) (x : X) → IsIn x xs → p x ≡ true → ((y : X) → IsIn y xs → p y ≡ true → y ≡ x) → find p xs ≡ Some x
found_one p [] x i h one = absurd i
found_one p (y ∷ ys) x i h one = by (p y) refl (λ j. found_one p ys x j h (λ z k. one z (inr k)))
  where
    later : p y ≡ false → IsIn x (y ∷ ys) → IsIn x ys
    later e (inl same) = true_not_false (p y) (ap p same ∙ h) e
    later e (inr j) = j

    by : (b : Bool) → p y ≡ b → (IsIn x ys → find p ys ≡ Some x) → cond b (Some y) (find p ys) ≡ Some x
    by true e rest = ap Some (one y (inl refl) e)
    by false e rest = rest (later e i)

-- the token with an id is found by its digest, as digests are distinct
known_token : (s : Registry) (id : ℕ) (t : Token) → Sound s → with_id s.tokens id ≡ Some t → token_of s t.digest ≡ Some t
known_token s id t sound at =
    let here = with_id_in s.tokens id t at in
    found_one (λ u. bytes_eq u.digest t.digest) s.tokens t here ((bytes_eq-Decides t.digest t.digest).1 refl) (λ u i same. one_of (on (λ t. t.digest) bytes_eq) digests-equivalence.symm s.tokens u t sound.digests i here same)

-- the text that stands for the crate of a name: its first spelling, or the name
abbrev spelt : Registry → Text → Text
spelt s n = unwrap_or (first s n) n

-- it is a name, and one of that crate
spelt_so : (s : Registry) (n : Text) → Sound s → is_name n ≡ true → (is_name (spelt s n) ≡ true) × (canon (spelt s n) ≡ canon n)
spelt_so s n sound named = by (first s n) refl
  where
    by : (o : Option Text) → first s n ≡ o → (is_name (unwrap_or o n) ≡ true) × (canon (unwrap_or o n) ≡ canon n)
    by None e = (named, refl)
    by (Some f) e = spelled s.publications n f sound.publications e

first_alike : (s : Registry) (m n : Text) → canon m ≡ canon n → first s m ≡ first s n
first_alike s m n e = ap (λ c. option_map (λ p. p.name) (find (λ p. bytes_eq (canon p.name) c) s.publications)) e

right_alike : (s : Registry) (m n : Text) (id : ℕ) (e : Endpoint) → canon m ≡ canon n → has_right s m id e ≡ has_right s n id e
right_alike s m n id endpoint.PublishNew h = ap (λ c. not (has_crate s c) && not (is_reserved_always c || finset.contains s.reserved c)) h
right_alike s m n id endpoint.PublishUpdate h = ap (λ c. is_among (filter (λ o. finset.contains s.owners (c, o.0)) (enumerate_from 1 s.accounts)) id) h
right_alike s m n id endpoint.Yank h = ap (λ c. is_among (filter (λ o. finset.contains s.owners (c, o.0)) (enumerate_from 1 s.accounts)) id) h
right_alike s m n id endpoint.ChangeOwners h = ap (λ c. is_among (filter (λ o. finset.contains s.owners (c, o.0)) (enumerate_from 1 s.accounts)) id) h

-- what is granted depends on the canonical text of a name alone
granted_alike : (s : Registry) (m n : Text) (t : Token) (e : Endpoint) → canon m ≡ canon n → is_granted s m t e ≡ is_granted s n t e
granted_alike s m n t e h = λ i. (t.live && is_enabled s t.account) && (has_endpoint t.endpoints e && (list_any (λ p. if has_star p then starts_with nat_eq (h i) (canon (prefix_of p)) else bytes_eq (h i) (canon p)) t.patterns && right_alike s m n t.account e h i))

-- what has an owner is there, and the owner sees it
owned_there : (s : Registry) (m : Text) (id : ℕ) → Sound s → is_among (owners s m) id ≡ true → exists s m ≡ true
owned_there s m id sound h =
    let o = any_in (λ o. owns s m o.0 && (o.0 == id)) (enumerate_from 1 s.accounts) (sym (any_filter (λ o. owns s m o.0) (λ o. o.0 == id) (enumerate_from 1 s.accounts)) ∙ h) in
    (sound.owners (canon m) o.0.0 (and_parts (owns s m o.0.0) _ o.2).0).0

owner_sees : (s : Registry) (m : Text) (id : ℕ) → Sound s → is_among (owners s m) id ≡ true → sees s (Some id) m ≡ true
owner_sees s m id sound h = and_from (exists s m) _ (owned_there s m id sound h) (or_right _ _ (or_left _ _ h))

-- whether a rule is one of `grant_rules`
abbrev is_grant_rule : Rule → Bool
is_grant_rule rule.A2 = true
is_grant_rule rule.A3 = true
is_grant_rule rule.A4 = true
is_grant_rule rule.A6 = true
is_grant_rule rule.A7 = true
is_grant_rule rule.A8 = true
is_grant_rule rule.A9 = true
is_grant_rule rule.N2 = true
is_grant_rule _ = false

-- no rule of the list that decides on a grant is broken
abbrev Lets : (Rule → Bool) → List Rule → Type 0
Lets p rs = AllByRecursion (λ r. (is_grant_rule r && p r) ≡ false) rs

-- such a list lets each of its rules pass that decides on a grant, and the other way round
lets : (p : Rule → Bool) (rs : List Rule) → Lets p rs → (r : Rule) → IsIn r rs → IsIn r grant_rules → p r ≡ false
lets p rs each r i j = ap (λ b. b && p r) (sym (all_in is_grant_rule grant_rules r refl j)) ∙ each_in (λ r. (is_grant_rule r && p r) ≡ false) rs r each i

is_in_rules : (r : Rule) → is_grant_rule r ≡ true → IsIn r grant_rules
is_in_rules rule.A2 e = inl refl
is_in_rules rule.A3 e = inr (inl refl)
is_in_rules rule.A4 e = inr (inr (inl refl))
is_in_rules rule.A6 e = inr (inr (inr (inl refl)))
is_in_rules rule.A7 e = inr (inr (inr (inr (inl refl))))
is_in_rules rule.A8 e = inr (inr (inr (inr (inr (inl refl)))))
is_in_rules rule.A9 e = inr (inr (inr (inr (inr (inr (inl refl))))))
is_in_rules rule.N2 e = inr (inr (inr (inr (inr (inr (inr (inl refl)))))))
is_in_rules _ e = cc

so_lets : (p : Rule → Bool) (rs : List Rule) → ((r : Rule) → IsIn r rs → IsIn r grant_rules → p r ≡ false) → Lets p rs
so_lets p rs h = in_each (λ r. (is_grant_rule r && p r) ≡ false) rs (λ r i. by (is_grant_rule r) (λ e. h r i (is_in_rules r e)))
  where
    by : {c : Bool} (b : Bool) → (b ≡ true → c ≡ false) → (b && c) ≡ false
    by true so = so refl
    by false so = refl

-- the rules of publishing, and those of what owners do
abbrev publish_order : Bool → List Rule
publish_order there =
    if there
    then rule.A2 ∷ rule.A3 ∷ rule.A4 ∷ rule.A6 ∷ rule.A7 ∷ rule.N3 ∷ rule.A9 ∷ rule.V2 ∷ rule.L1 ∷ []
    else rule.A2 ∷ rule.A3 ∷ rule.A4 ∷ rule.A6 ∷ rule.A7 ∷ rule.N2 ∷ rule.L2 ∷ []

abbrev owner_order : List Rule → List Rule
owner_order rest = rule.A2 ∷ rule.A3 ∷ rule.A4 ∷ rule.A6 ∷ rule.A8 ∷ rule.A7 ∷ rule.A9 ∷ rest

-- what a grant is made of
granted_parts : (s : Registry) (m : Text) (t : Token) (e : Endpoint) → is_granted s m t e ≡ true → ((t.live ≡ true) × (is_enabled s t.account ≡ true)) × (has_endpoint t.endpoints e ≡ true) × (list_any (λ p. covers p m) t.patterns ≡ true) × (has_right s m t.account e ≡ true)
granted_parts s m t e h =
    let parts = and_parts (t.live && is_enabled s t.account) _ h in
    let rest = and_parts (has_endpoint t.endpoints e) _ parts.1 in
    let last = and_parts (list_any (λ p. covers p m) t.patterns) _ rest.1 in
    (and_parts t.live _ parts.0, rest.0, last.0, last.1)

-- what each rule says of a known token and a crate
module _ (s : Registry) (t : Token) (m : Text) (a : Action) (known : token_of s t.digest ≡ Some t) (about : crate_of a ≡ Some m) where
  abbrev fails : Rule → Bool
  fails r = breaks (access_facts s t.digest a) a r

  known_is : fails rule.A2 ≡ false
  unfolding access_facts
  known_is = ap (λ o. not (is_some o)) known

  live_is : fails rule.A3 ≡ not t.live
  unfolding access_facts
  live_is = ap (λ o. not (holds (λ t. t.live) o)) known

  enabled_is : fails rule.A4 ≡ not (is_enabled s t.account)
  unfolding access_facts
  enabled_is = ap (λ o. not (holds (λ t. is_enabled s t.account) o)) known

  lacks_is : (e : Endpoint) → needed (first s m) a ≡ Some e → fails rule.A6 ≡ not (has_endpoint t.endpoints e)
  unfolding access_facts
  lacks_is e needs = (λ i. lacks (endpoints_of (known i)) (needed (spelling s (about i)) a)) ∙ ap (lacks t.endpoints) needs

  covered_is : fails rule.A7 ≡ not (list_any (λ p. covers p m) t.patterns)
  unfolding access_facts
  covered_is = λ i. not (holds (λ t. holds (λ n. list_any (λ p. covers p n) t.patterns) (about i)) (known i))

  seen_is : not (holds (visible s t.digest) (crate_of a)) ≡ not (sees s (Some t.account) m)
  seen_is = λ i. not (holds (λ n. sees s (option_map (λ t. t.account) (known i)) n) (about i))

  owner_is : fails rule.A9 ≡ not (is_among (owners s m) t.account)
  unfolding access_facts
  owner_is = λ i. not (holds (λ t. is_among (lists (owners s) (about i)) t.account) (known i))

  reserved_is : fails rule.N2 ≡ is_reserved s m
  unfolding access_facts
  reserved_is = ap (holds (is_reserved s)) about

  module _ (e : Endpoint) (needs : needed (first s m) a ≡ Some e) where
    -- where these rules pass and there is the right, the endpoint is granted
    may : fails rule.A3 ≡ false → fails rule.A4 ≡ false → fails rule.A6 ≡ false → fails rule.A7 ≡ false → has_right s m t.account e ≡ true → is_granted s m t e ≡ true
    may live enabled has covered right =
        and_from (t.live && is_enabled s t.account) _ (and_from t.live _ (not_false _ (sym live_is ∙ live)) (not_false _ (sym enabled_is ∙ enabled)))
        (and_from (has_endpoint t.endpoints e) _ (not_false _ (sym (lacks_is e needs) ∙ has)) (and_from (list_any (λ p. covers p m) t.patterns) _ (not_false _ (sym covered_is ∙ covered)) right))

    owner_may : is_among (owners s m) t.account ≡ has_right s m t.account e → (rest : List Rule) → Lets fails (owner_order rest) → is_granted s m t e ≡ true
    owner_may same rest l = may l.1.0 l.1.1.0 l.1.1.1.0 l.1.1.1.1.1.0 (sym same ∙ not_false _ (sym owner_is ∙ l.1.1.1.1.1.1.0))

    publisher_may : (there : Bool) → exists s m ≡ there → (if there then endpoint.PublishUpdate else endpoint.PublishNew) ≡ e → Lets fails (publish_order there) → is_granted s m t e ≡ true
    publisher_may true h same l = may l.1.0 l.1.1.0 l.1.1.1.0 l.1.1.1.1.0 (ap (has_right s m t.account) (sym same) ∙ not_false _ (sym owner_is ∙ l.1.1.1.1.1.1.0))
    publisher_may false h same l = may l.1.0 l.1.1.0 l.1.1.1.0 l.1.1.1.1.0 (ap (has_right s m t.account) (sym same) ∙ and_from (not (exists s m)) _ (ap not h) (ap not (sym reserved_is ∙ l.1.1.1.1.1.0)))

    -- where the endpoint is granted, the rules pass
    module _ (granted : is_granted s m t e ≡ true) where
      live_lets : fails rule.A3 ≡ false
      live_lets = live_is ∙ ap not (granted_parts s m t e granted).0.0

      enabled_lets : fails rule.A4 ≡ false
      enabled_lets = enabled_is ∙ ap not (granted_parts s m t e granted).0.1

      has_lets : fails rule.A6 ≡ false
      has_lets = lacks_is e needs ∙ ap not (granted_parts s m t e granted).1

      covered_lets : fails rule.A7 ≡ false
      covered_lets = covered_is ∙ ap not (granted_parts s m t e granted).2

      owner_lets : Sound s → is_among (owners s m) t.account ≡ true → fails rule.A8 ≡ not (holds (visible s t.digest) (crate_of a)) → (rest : List Rule) → Lets fails rest → Lets fails (owner_order rest)
      owner_lets sound own absent rest l = (known_is, (live_lets, (enabled_lets, (has_lets, (absent ∙ seen_is ∙ ap not (owner_sees s m t.account sound own), (covered_lets, (owner_is ∙ ap not own, l)))))))

      update_lets : is_among (owners s m) t.account ≡ true → Lets fails (publish_order true)
      update_lets own = (known_is, (live_lets, (enabled_lets, (has_lets, (covered_lets, (refl, (owner_is ∙ ap not own, (refl, (refl, tt)))))))))

      new_lets : is_reserved s m ≡ false → Lets fails (publish_order false)
      new_lets free = (known_is, (live_lets, (enabled_lets, (has_lets, (covered_lets, (reserved_is ∙ free, (refl, tt)))))))

-- who may use an endpoint may ask, and who may ask may use it
module _ (s : Registry) (n : Text) (t : Token) (sound : Sound s) (named : is_name n ≡ true) (known : token_of s t.digest ≡ Some t) where
  same_first : first s (spelt s n) ≡ first s n
  same_first = first_alike s (spelt s n) n (spelt_so s n sound named).1

  is_there : exists s (spelt s n) ≡ is_some (first s n)
  is_there = sym (is_some_find (λ p. p.name) (λ p. collides p.name (spelt s n)) s.publications) ∙ ap is_some same_first

  is_named : name_of (spelt s n) ≡ Some (spelt s n)
  is_named = ap (λ b. cond b (Some (spelt s n)) None) (spelt_so s n sound named).0

  asks : (a : Action) (e : Endpoint) → crate_of a ≡ Some (spelt s n) → needed (first s n) a ≡ Some e → Lets (breaks (access_facts s t.digest a) a) (order (first s n) a) → MayAsk s n t.digest e a
  asks a e about needs l = record { about = about; needs = needs; clear = lets (breaks (access_facts s t.digest a) a) (order (first s n) a) l }

  publishes : (e : Endpoint) (there : Bool) → is_some (first s n) ≡ there → (if there then endpoint.PublishUpdate else endpoint.PublishNew) ≡ e → Lets (breaks (access_facts s t.digest (Publish (spelt s n) [])) (Publish (spelt s n) [])) (publish_order there) → MayAsk s n t.digest e (Publish (spelt s n) [])
  publishes e there h same l = asks (Publish (spelt s n) []) e refl (ap (λ b. Some (if b then endpoint.PublishUpdate else endpoint.PublishNew)) h ∙ ap Some same) (subst (λ b. Lets (breaks (access_facts s t.digest (Publish (spelt s n) [])) (Publish (spelt s n) [])) (publish_order b)) (sym h) l)

  needs_so : (a : Action) (e : Endpoint) → needed (first s n) a ≡ Some e → needed (first s (spelt s n)) a ≡ Some e
  needs_so a e h = ap (λ o. needed o a) same_first ∙ h

  right_of : (e : Endpoint) → is_granted s (spelt s n) t e ≡ true → has_right s (spelt s n) t.account e ≡ true
  right_of e h = (granted_parts s (spelt s n) t e h).3

  may_ask : (e : Endpoint) → is_granted s (spelt s n) t e ≡ true → (a : Action) × MayAsk s n t.digest e a
  unfolding access_facts
  may_ask endpoint.PublishNew h =
      let a = Publish (spelt s n) [] in
      let right = and_parts (not (exists s (spelt s n))) _ (right_of endpoint.PublishNew h) in
      let none = sym is_there ∙ not_true_so _ right.0 in
      let needs = needs_so a endpoint.PublishNew (ap (λ b. Some (if b then endpoint.PublishUpdate else endpoint.PublishNew)) none) in
      (a, publishes endpoint.PublishNew false none refl (new_lets s t (spelt s n) a known refl endpoint.PublishNew needs h (not_true_so _ right.1)))
  may_ask endpoint.PublishUpdate h =
      let a = Publish (spelt s n) [] in
      let own = right_of endpoint.PublishUpdate h in
      let some = sym is_there ∙ owned_there s (spelt s n) t.account sound own in
      let needs = needs_so a endpoint.PublishUpdate (ap (λ b. Some (if b then endpoint.PublishUpdate else endpoint.PublishNew)) some) in
      (a, publishes endpoint.PublishUpdate true some refl (update_lets s t (spelt s n) a known refl endpoint.PublishUpdate needs h own))
  may_ask endpoint.Yank h =
      let a = Yank (spelt s n) [] in
      (a, asks a endpoint.Yank is_named refl (owner_lets s t (spelt s n) a known is_named endpoint.Yank refl h sound (right_of endpoint.Yank h) refl (rule.A10 ∷ []) (refl, tt)))
  may_ask endpoint.ChangeOwners h =
      let a = AddOwners (spelt s n) [] in
      (a, asks a endpoint.ChangeOwners is_named refl (owner_lets s t (spelt s n) a known is_named endpoint.ChangeOwners refl h sound (right_of endpoint.ChangeOwners h) refl (rule.O2 ∷ []) (refl, tt)))

  granted_so : (e : Endpoint) (a : Action) → MayAsk s n t.digest e a → is_granted s (spelt s n) t e ≡ true
  granted_so e a k = by a k.about k.needs (so_lets (breaks (access_facts s t.digest a) a) (order (first s n) a) k.clear)
    where
      by : (a : Action) → crate_of a ≡ Some (spelt s n) → needed (first s n) a ≡ Some e → Lets (breaks (access_facts s t.digest a) a) (order (first s n) a) → is_granted s (spelt s n) t e ≡ true
      by Read about needs l = cc
      by (Index path) about needs l = cc
      by (Download x v) about needs l = cc
      by (ListOwners x) about needs l = cc
      by (Publish x v) about needs l = publisher_may s t (spelt s n) (Publish x v) known about e (needs_so (Publish x v) e needs) (is_some (first s n)) is_there (the_some needs) l
      by (Yank x v) about needs l = subst (λ e. is_granted s (spelt s n) t e ≡ true) (the_some needs) (owner_may s t (spelt s n) (Yank x v) known about endpoint.Yank refl refl (rule.A10 ∷ []) l)
      by (Unyank x v) about needs l = subst (λ e. is_granted s (spelt s n) t e ≡ true) (the_some needs) (owner_may s t (spelt s n) (Unyank x v) known about endpoint.Yank refl refl (rule.A10 ∷ []) l)
      by (AddOwners x logins) about needs l = subst (λ e. is_granted s (spelt s n) t e ≡ true) (the_some needs) (owner_may s t (spelt s n) (AddOwners x logins) known about endpoint.ChangeOwners refl refl (rule.O2 ∷ []) l)
      by (RemoveOwners x logins) about needs l = subst (λ e. is_granted s (spelt s n) t e ≡ true) (the_some needs) (owner_may s t (spelt s n) (RemoveOwners x logins) known about endpoint.ChangeOwners refl refl (rule.O3 ∷ rule.O4 ∷ []) l)

pub grants_are_policy : GrantsArePolicy
grants_are_policy s n id e sound named = (to, from)
  where
    alike : (t : Token) → is_granted s (spelt s n) t e ≡ is_granted s n t e
    alike t = granted_alike s (spelt s n) n t e (spelt_so s n sound named).1

    to : IsIn (id, e) (grants s n) → (t : Token) × (with_id s.tokens id ≡ Some t) × ((a : Action) × MayAsk s n t.digest e a)
    to i = let r = listed_grant s n id e i in (r.0, r.1, may_ask s n r.0 sound named (known_token s id r.0 sound r.1) e (alike r.0 ∙ r.2))

    from : (t : Token) × (with_id s.tokens id ≡ Some t) × ((a : Action) × MayAsk s n t.digest e a) → IsIn (id, e) (grants s n)
    from (t, at, (a, k)) = grant_listed s n id e t at (sym (alike t) ∙ granted_so s n t sound named (known_token s id t sound at) e a k)
