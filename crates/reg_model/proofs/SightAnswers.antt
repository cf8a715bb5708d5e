-- Two registries that have one sight for a token answer it the same.
use Rattle.reg_model.proofs.Words.{◌≡◌, ℕ, zero, suc, inl, inr, List, [], ◌∷◌, Bool, true, false, cond, Option, Some, None, refl, sym, ◌∙◌}
use Rattle.reg_model.proofs.Words.{ap, ◌&&◌, ◌||◌, not, is_some, length, take, unwrap_or, list_any, list_all, find, filter, option_map}
use Rattle.reg_model.proofs.Words.{bytes_eq, nat_list_cmp_total, and_parts, bytes_eq-Decides, canon, is_name, name_at, name_of, Limits}
use Rattle.reg_model.proofs.Words.{Rule, Text, Token, Registry, holds, text_cmp, token_of, canons, exists, has_crate, is_among}
use Rattle.reg_model.proofs.Words.{is_restricted, file, owners, readers, sees, versions, viewer, visible, Action, crate_of, has_login}
use Rattle.reg_model.proofs.Words.{is_named, lists, spelling, Asked, action_of, fault_of, Archive, Denied, File, Found, Owners, Malformed}
use Rattle.reg_model.proofs.Words.{Read, Index, Download, ListOwners, Publish, Yank, Unyank, AddOwners, RemoveOwners, Ask, served, judged}
use Rattle.reg_model.proofs.Words.{or_else, hit, occurs, HaveOneSight, Outcome, outcome, unless_denied}
use Rattle.std.specs.Prelude.{map}
use Rattle.std.specs.FinMap as finmap
use Rattle.std.specs.FinMap.Entries as entries
use Rattle.reg_line.specs.Config.{config_text}
use Rattle.reg_model.specs.Actions.{logins_of, version_of}
use Rattle.reg_model.specs.Facts.{access_facts, counts}
use Rattle.reg_model.specs.Rules.{verdict}
use Rattle.reg_model.specs.Events.Answer.{Config}
use Rattle.reg_model.specs.Events.Reading.{Config as of_config, Search as of_search}
use Rattle.reg_model.specs.Effects.{done}
use Rattle.reg_model.specs.Refusals.{denied}
use Rattle.reg_model.specs.Search.{found, matches}
use Rattle.reg_model.specs.Laws.{ByNoPublishOrOwner}
use Rattle.reg_model.proofs.Canons.{Keyed, by_canon, canonical, key_there}
use Rattle.reg_model.proofs.Cleared.{not_denied}
use Rattle.reg_model.proofs.Keys.{text_apart}
use Rattle.reg_model.proofs.Lists.{not_true, true_not_false}
use Rattle.reg_model.proofs.Masked.{LooksAtOne, masked, masked_counts, same_verdict}
use Rattle.reg_model.proofs.Members.{IsIn, filtered_passes, map_same}
use Rattle.reg_model.proofs.Sights.{account_alike, all_owners_alike, covered_alike, enabled_alike, endpoints_alike, file_alike, first_alike, hit_alike, known_alike, live_alike, login_alike, owner_alike, owners_alike, versions_alike, visible_alike}

-- what a test on a canonical text lets pass, and a test on what is there
guarded : {X : Type 0} (b c : Bool) (x y none : X) → b ≡ c → (b ≡ true → x ≡ y) → cond b x none ≡ cond c y none
guarded true true x y none e same = same refl
guarded true false x y none e same = cc e
guarded false true x y none e same = cc e
guarded false false x y none e same = refl

module _ (s t : Registry) (digest : Text) (one : HaveOneSight s t digest) where
  -- the facts of the crate of an action
  seen_alike : (o : Option Text) → holds (visible s digest) o ≡ holds (visible t digest) o
  seen_alike None = refl
  seen_alike (Some n) = visible_alike s t digest one n

  of_crate : {X : Type 0} (f : Registry → Option Text → X) (none : X) (o : Option Text) → ((n : Text) → visible s digest n ≡ true → f s (Some n) ≡ f t (Some n)) → cond (holds (visible s digest) o) (f s o) none ≡ cond (holds (visible t digest) o) (f t o) none
  of_crate f none None same = refl
  of_crate f none (Some n) same = guarded (visible s digest n) (visible t digest n) _ _ none (visible_alike s t digest one n) (same n)

  owner_of : (n : Text) → visible s digest n ≡ true → holds (λ u. is_among (owners s n) u.account) (token_of s digest) ≡ holds (λ u. is_among (owners t n) u.account) (token_of t digest)
  owner_of n seen = account_alike s t digest one (is_among (owners s n)) ∙ same_test (λ id. owner_alike s t digest one n id seen) (token_of t digest)
    where
      same_test : ((id : ℕ) → is_among (owners s n) id ≡ is_among (owners t n) id) → (o : Option Token) → holds (λ u. is_among (owners s n) u.account) o ≡ holds (λ u. is_among (owners t n) u.account) o
      same_test h None = refl
      same_test h (Some u) = h u.account

  facts_alike : (a : Action) → masked (access_facts s digest a) ≡ masked (access_facts t digest a)
  unfolding access_facts
  facts_alike a = λ i. record {
    is_known = known_alike s t digest one i;
    is_live = live_alike s t digest one i;
    is_enabled = enabled_alike s t digest one i;
    endpoints = endpoints_alike s t digest one i;
    is_covered = covered_alike s t digest one (crate_of a) i;
    first = of_crate spelling None (crate_of a) (first_alike s t digest one) i;
    is_visible = seen_alike (crate_of a) i;
    is_owner = of_crate (λ r o. holds (λ u. is_among (lists (owners r) o) u.account) (token_of r digest)) false (crate_of a) owner_of i;
    is_reserved = false;
    has_version = of_crate (λ r o. list_any (λ p. bytes_eq p.version (version_of a)) (lists (versions r) o)) false (crate_of a) (λ n seen. ap (list_any (λ p. bytes_eq p.version (version_of a))) (versions_alike s t digest one n seen)) i;
    has_release = false;
  }

  all_alike : (p q : Text → Bool) (xs : List Text) → ((x : Text) → p x ≡ q x) → list_all p xs ≡ list_all q xs
  all_alike p q [] h = refl
  all_alike p q (x ∷ xs) h = λ i. h x i && all_alike p q xs h i

  counts_alike : (a : Action) → masked_counts (holds (visible s digest) (crate_of a)) (counts s a) ≡ masked_counts (holds (visible t digest) (crate_of a)) (counts t a)
  unfolding counts
  counts_alike a = λ i. record {
    versions = 0;
    crates = 0;
    are_known = false;
    are_owners = of_crate (λ r o. list_all (has_login (lists (owners r) o)) (logins_of a)) false (crate_of a) (λ n seen. all_alike _ _ (logins_of a) (λ login. login_alike s t digest one n login seen)) i;
    are_all_owners = of_crate (λ r o. list_all (λ o. is_named (logins_of a) o.1.login) (lists (owners r) o)) false (crate_of a) (λ n seen. all_owners_alike s t digest one n (logins_of a) seen) i;
  }

  visible_in : (r : Registry) (a : Action) → (access_facts r digest a).is_visible ≡ holds (visible r digest) (crate_of a)
  unfolding access_facts
  visible_in r a = refl

  judged_alike : (limits : Limits) (a : Action) → LooksAtOne a → judged limits s digest a ≡ judged limits t digest a
  judged_alike limits a ok =
      same_verdict limits (access_facts s digest a) (counts s a) a ok
      ∙ ap (λ b. verdict limits (masked (access_facts s digest a)) (masked_counts b (counts s a)) a) (visible_in s a)
      ∙ (λ i. verdict limits (facts_alike a i) (counts_alike a i) a)
      ∙ ap (λ b. verdict limits (masked (access_facts t digest a)) (masked_counts b (counts t a)) a) (sym (visible_in t a))
      ∙ sym (same_verdict limits (access_facts t digest a) (counts t a) a ok)

  looks : (asked : Asked) → ByNoPublishOrOwner asked → LooksAtOne (action_of asked)
  looks (Malformed r) ok = tt
  looks (Read w) ok = tt
  looks (Index p) ok = tt
  looks (Download n v) ok = tt
  looks (ListOwners n) ok = tt
  looks (Publish p) ok = absurd ok
  looks (Yank n v) ok = tt
  looks (Unyank n v) ok = tt
  looks (AddOwners n l) ok = absurd ok
  looks (RemoveOwners n l) ok = tt

  denied_alike : (limits : Limits) (asked : Asked) → ByNoPublishOrOwner asked → denied limits s (Some digest) asked ≡ denied limits t (Some digest) asked
  unfolding denied
  denied_alike limits asked ok = ap (λ v. or_else v (fault_of asked)) (judged_alike limits (action_of asked) (looks asked ok))

  -- what a search finds
  named_here : (r : Registry) (c : Text) (b o : Bool) → bytes_eq (canon c) c ≡ b → ((sees r (viewer r digest) c && o) && has_crate r c) ≡ ((sees r (viewer r digest) c && o) && b)
  named_here r c true o e =
      ap (λ x. (sees r (viewer r digest) c && o) && has_crate r x) (sym ((bytes_eq-Decides (canon c) c).0 e))
      ∙ by (exists r c) (not (is_restricted r c) || holds (λ id. is_among (owners r c) id || is_among (readers r c) id) (viewer r digest)) o
    where
      by : (x v o : Bool) → ((x && v) && o && x) ≡ ((x && v) && o && true)
      by true v o = refl
      by false v o = refl
  named_here r c false o e = ap (λ b. (sees r (viewer r digest) c && o) && b) (not_true (has_crate r c) (λ h. true_not_false (bytes_eq (canon c) c) ((bytes_eq-Decides (canon c) c).1 (canonical r c h)) e))

  passes : Registry → Text → Text → Bool
  passes r q c = sees r (viewer r digest) c && occurs (canon q) c

  abbrev rows : Registry → List Keyed
  rows r = finmap.entries (by_canon r)

  there : (r : Registry) (c : Text) → is_some (entries.find text_cmp c (rows r)) ≡ has_crate r c
  there r c = entries.is_some-find text_cmp c (rows r) ∙ key_there r c

  same_units : (x y : Option (Unit {0})) → is_some x ≡ is_some y → x ≡ y
  same_units None None e = refl
  same_units None (Some u) e = cc e
  same_units (Some u) None e = cc e
  same_units (Some u) (Some v) e = refl

  some_if : (b : Bool) (x : Option (Unit {0})) → is_some (cond b x None) ≡ (b && is_some x)
  some_if true x = refl
  some_if false x = refl

  pass_alike : (q c : Text) → (passes s q c && has_crate s c) ≡ (passes t q c && has_crate t c)
  unfolding passes
  pass_alike q c =
      named_here s c (bytes_eq (canon c) c) (occurs (canon q) c) refl
      ∙ ap (λ b. (b && occurs (canon q) c) && bytes_eq (canon c) c) (visible_alike s t digest one c)
      ∙ sym (named_here t c (bytes_eq (canon c) c) (occurs (canon q) c) refl)

  found_row : (r : Registry) (q c : Text) → entries.find text_cmp c (entries.where_key text_cmp (passes r q) (rows r)) ≡ cond (passes r q c) (entries.find text_cmp c (rows r)) None
  found_row r q c = entries.find-where_key text_cmp (passes r q) c (λ x e. ap (passes r q) (sym (text_apart c x e))) (rows r)

  rows_alike : (q : Text) → entries.where_key text_cmp (passes s q) (rows s) ≡ entries.where_key text_cmp (passes t q) (rows t)
  rows_alike q = entries.same_entries text_cmp nat_list_cmp_total text_apart _ _
      (entries.is_sorted-where_key text_cmp (passes s q) (rows s) (finmap.entries_sorted (by_canon s)))
      (entries.is_sorted-where_key text_cmp (passes t q) (rows t) (finmap.entries_sorted (by_canon t)))
      (λ c. found_row s q c ∙ same_units _ _ (some_if (passes s q c) (entries.find text_cmp c (rows s)) ∙ ap (λ b. passes s q c && b) (there s c) ∙ pass_alike q c ∙ sym (ap (λ b. passes t q c && b) (there t c)) ∙ sym (some_if (passes t q c) (entries.find text_cmp c (rows t)))) ∙ sym (found_row t q c))

  filter_first : (p : Text → Bool) (es : List Keyed) → filter p (map (λ e. e.0) es) ≡ map (λ e. e.0) (filter (λ e. p e.0) es)
  filter_first p [] = refl
  filter_first p (e ∷ es) = elim (p e.0) as (λ b. cond b (e.0 ∷ filter p (map (λ e. e.0) es)) (filter p (map (λ e. e.0) es)) ≡ map (λ e. e.0) (cond b (e ∷ filter (λ e. p e.0) es) (filter (λ e. p e.0) es))) [ true ↦ ap (λ l. e.0 ∷ l) (filter_first p es) | false ↦ filter_first p es ]

  pub matches_alike : (q : Text) → matches s (viewer s digest) q ≡ matches t (viewer t digest) q
  unfolding matches passes
  matches_alike q = filter_first (passes s q) (rows s) ∙ ap (map (λ e. e.0)) (rows_alike q) ∙ sym (filter_first (passes t q) (rows t))

  in_take : (k : ℕ) (xs : List Text) (x : Text) → IsIn x (take k xs) → IsIn x xs
  in_take zero xs x i = absurd i
  in_take (suc k) [] x i = absurd i
  in_take (suc k) (y ∷ xs) x (inl e) = inl e
  in_take (suc k) (y ∷ xs) x (inr i) = inr (in_take k xs x i)

  hits_alike : (q : Text) (k : ℕ) → map (hit s) (take k (matches s (viewer s digest) q)) ≡ map (hit t) (take k (matches s (viewer s digest) q))
  unfolding matches
  hits_alike q k = map_same (hit s) (hit t) _ (λ c i. hit_alike s t digest one c (and_parts (visible s digest c) _ (filtered_passes (λ c. sees s (viewer s digest) c && occurs (canon q) c) (canons s) c (in_take k _ c i))).0)

  found_alike : (q : Text) (k : ℕ) → found s (viewer s digest) q k ≡ found t (viewer t digest) q k
  unfolding found
  found_alike q k = λ i. record {
    total = length (matches_alike q i);
    crates = (hits_alike q k ∙ ap (λ l. map (hit t) (take k l)) (matches_alike q)) i;
  }

  not_false : (b : Bool) → not b ≡ false → b ≡ true
  not_false true e = refl
  not_false false e = cc

  named_seen : (n : Text) → not (holds (visible s digest) (name_of n)) ≡ false → visible s digest n ≡ true
  named_seen n e = by (is_name n) (not_false _ e)
    where
      by : (b : Bool) → holds (visible s digest) (cond b (Some n) None) ≡ true → visible s digest n ≡ true
      by true f = f
      by false f = cc

  served_alike : (limits : Limits) (asked : Asked) → ByNoPublishOrOwner asked → denied limits s (Some digest) asked ≡ None → served s (viewer s digest) asked ≡ served t (viewer t digest) asked
  unfolding access_facts
  served_alike limits (Malformed r) ok allowed = refl
  served_alike limits (Read of_config) ok allowed = ap (λ b. Config (config_text b)) one.base
  served_alike limits (Read (of_search q k)) ok allowed = ap Found (found_alike q k)
  served_alike limits (Index p) ok allowed = by (name_at p) (and_parts (holds (visible s digest) (name_at p)) _ (not_false _ (not_denied limits s digest (Index p) allowed).1.1.1.0)).0
    where
      by : (o : Option Text) → holds (visible s digest) o ≡ true → File (file s (unwrap_or o [])) ≡ File (file t (unwrap_or o []))
      by None seen = cc
      by (Some n) seen = ap File (file_alike s t digest one n seen)
  served_alike limits (Download n v) ok allowed =
      let seen = named_seen n (not_denied limits s digest (Download n v) allowed).1.1.1.0 in
      ap (λ ps. Archive (unwrap_or (option_map (λ p. p.archive) (find (λ p. bytes_eq p.version v) ps)) [])) (versions_alike s t digest one n seen)
  served_alike limits (ListOwners n) ok allowed =
      let seen = named_seen n (not_denied limits s digest (ListOwners n) allowed).1.1.1.0 in
      ap Owners (owners_alike s t digest one n seen)
  served_alike limits (Publish p) ok allowed = absurd ok
  served_alike limits (Yank n v) ok allowed = refl
  served_alike limits (Unyank n v) ok allowed = refl
  served_alike limits (AddOwners n l) ok allowed = absurd ok
  served_alike limits (RemoveOwners n l) ok allowed = refl

  answer_of : (v w : Option Rule) (o p : Outcome) → v ≡ w → (v ≡ None → o.0 ≡ p.0) → (unless_denied s v o).0 ≡ (unless_denied t w p).0
  answer_of None None o p e same = same refl
  answer_of None (Some r) o p e same = cc e
  answer_of (Some r) None o p e same = cc e
  answer_of (Some q) (Some r) o p e same = ap Denied (the_rule e)
    where
      the_rule : Some q ≡ Some r → q ≡ r
      the_rule h = cc h

  pub sight_answers : (limits : Limits) (asked : Asked) → ByNoPublishOrOwner asked → (outcome limits s (Ask (Some digest) asked)).0 ≡ (outcome limits t (Ask (Some digest) asked)).0
  sight_answers limits asked ok = answer_of (denied limits s (Some digest) asked) (denied limits t (Some digest) asked) (served s (viewer s digest) asked, done s (unwrap_or (viewer s digest) 0) asked) (served t (viewer t digest) asked, done t (unwrap_or (viewer t digest) 0) asked) (denied_alike limits asked ok) (served_alike limits asked ok)
