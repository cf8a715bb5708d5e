-- What one event brings is told by its line.
use Rattle.reg_model.proofs.Words.{◌≡◌, ◌⊎◌, ◌+◌, ◌-◌, ◌==◌, ℕ, zero, suc, List, [], ◌∷◌, ◌++◌, Bool, true, false, cond, Option, Some, None}
use Rattle.reg_model.proofs.Words.{inl, inr, refl, sym, ◌∙◌, ap, map, subst, ◌||◌, codes, is_some, unwrap_or, cons_option, list_all}
use Rattle.reg_model.proofs.Words.{list_any, position_from, eq_by_cmp, bytes_eq, and_parts, Limits, canon, Rule, AdminRefusal}
use Rattle.reg_model.proofs.Words.{with_reserved, Text, Mark, Owner, mark_cmp, owner_cmp, Account, Publication, Registry, change_at}
use Rattle.reg_model.proofs.Words.{change_place, id_of_login, ids_of, exists, first, is_reserved_always, is_yanked, owns, account_of}
use Rattle.reg_model.proofs.Words.{caller, enable, replied, served, Answer, Asked, Command, Event, Malformed, Read, Index, Download}
use Rattle.reg_model.proofs.Words.{ListOwners, Publish, Yank, Unyank, AddOwners, RemoveOwners, UserAdd, UserDisable, UserEnable, TokenAdd}
use Rattle.reg_model.proofs.Words.{TokenRevoke, Reserve, Unreserve, OwnerAdd, Access, Users, Tokens, Crates, CrateRestrict, CrateOpen}
use Rattle.reg_model.proofs.Words.{ReaderAdd, ReaderRemove, Ask, Order, IsIn, login_of, with_commas, Sound, Step, outcome, unless_denied}
use Rattle.reg_model.proofs.Words.{unless_refused, command_words, event_words, request_words, spelled, unless, unless_some, with_asker}
use Rattle.reg_model.proofs.Words.{GivesOwner, Publishes, Yanks, at_commas}
use Rattle.std.specs.List.{filter_map}
use Rattle.std.specs.FinSet as set
use Rattle.reg_model.specs.Effects.{commanded, done}
use Rattle.reg_model.specs.Refusals.{denied, refused}
use Rattle.reg_model.proofs.Keys.{mark_apart, mark_total, owner_apart, owner_total, same_key}
use Rattle.reg_model.proofs.Lists.{or_split}
use Rattle.reg_model.proofs.Members.{all_in, any_in}
use Rattle.reg_model.specs.Facts.{access_facts}
use Rattle.reg_model.proofs.Cleared.{not_denied}
use Rattle.reg_model.proofs.TrailPlain.{added_logins}
use Rattle.reg_model.proofs.TrailReplayed.{asker_found, first_clear, some_logins, spelled_canon}
use Rattle.reg_model.proofs.TrailUntold.{list_any-map}

-- what the event tells, or what was so before
abbrev Brings : Limits → Registry → Event → Type 0 → (List Text → Type 0) → Type 0
Brings limits s e before fact = before ⊎ ((ws : List Text) × (event_words limits s e ≡ Some ws) × fact (with_asker s e ws))

-- it is enough to look at what is not refused
module _ (limits : Limits) (s : Registry) (P : Registry → Type 0) (G : List Text → Type 0) where
  asked_brings : (digest : Option Text) (asked : Asked)
      → (denied limits s digest asked ≡ None → P (done s (unwrap_or (caller s digest) 0) asked) → P s ⊎ ((ws : List Text) × (request_words s asked ≡ Some ws) × G (with_asker s (Ask digest asked) ws)))
      → P (outcome limits s (Ask digest asked)).1 → Brings limits s (Ask digest asked) (P s) G
  asked_brings digest asked so p = by (denied limits s digest asked) refl p
    where
      told : denied limits s digest asked ≡ None → P s ⊎ ((ws : List Text) × (request_words s asked ≡ Some ws) × G (with_asker s (Ask digest asked) ws)) → Brings limits s (Ask digest asked) (P s) G
      told e (inl q) = inl q
      told e (inr (ws, h, g)) = inr (ws, ap (λ o. unless_some o (request_words s asked)) e ∙ h, g)

      by : (o : Option Rule) → denied limits s digest asked ≡ o → P (unless_denied s o (served s (caller s digest) asked, done s (unwrap_or (caller s digest) 0) asked)).1 → Brings limits s (Ask digest asked) (P s) G
      by (Some r) e q = inl q
      by None e q = told e (so e q)

  ordered_brings : (c : Command)
      → (refused limits s c ≡ None → P (commanded s c) → P s ⊎ ((ws : List Text) × (command_words s c ≡ Some ws) × G (with_asker s (Order c) ws)))
      → P (outcome limits s (Order c)).1 → Brings limits s (Order c) (P s) G
  ordered_brings c so p = by (refused limits s c) refl p
    where
      told : refused limits s c ≡ None → P s ⊎ ((ws : List Text) × (command_words s c ≡ Some ws) × G (with_asker s (Order c) ws)) → Brings limits s (Order c) (P s) G
      told e (inl q) = inl q
      told e (inr (ws, h, g)) = inr (ws, ap (λ o. unless_some o (command_words s c)) e ∙ h, g)

      by : (o : Option AdminRefusal) → refused limits s c ≡ o → P (unless_refused s o (replied s c, commanded s c)).1 → Brings limits s (Order c) (P s) G
      by (Some g) e q = inl q
      by None e q = told e (so e q)

nobody_passes : (limits : Limits) (s : Registry) (asked : Asked) → denied limits s None asked ≡ None → ⊥
unfolding denied
nobody_passes limits s asked e = cc

-- ---- what commands leave

commanded_publications : (s : Registry) (c : Command) → (commanded s c).publications ≡ s.publications
unfolding commanded
commanded_publications s (UserAdd login name) = refl
commanded_publications s (UserDisable login) = refl
commanded_publications s (UserEnable login) = refl
commanded_publications s (TokenAdd login words patterns digest) = refl
commanded_publications s (TokenRevoke id) = refl
commanded_publications s (Reserve n) = by (is_reserved_always (canon n))
  where
    by : (b : Bool) → (cond b s (with_reserved (canon n) s)).publications ≡ s.publications
    by true = refl
    by false = refl
commanded_publications s (Unreserve n) = refl
commanded_publications s (OwnerAdd n login) = refl
commanded_publications s (CrateRestrict n) = refl
commanded_publications s (CrateOpen n) = refl
commanded_publications s (ReaderAdd n login) = refl
commanded_publications s (ReaderRemove n login) = refl
commanded_publications s (Access n) = refl
commanded_publications s Users = refl
commanded_publications s Tokens = refl
commanded_publications s Crates = refl

commanded_yanked : (s : Registry) (c : Command) → (commanded s c).yanked ≡ s.yanked
unfolding commanded
commanded_yanked s (UserAdd login name) = refl
commanded_yanked s (UserDisable login) = refl
commanded_yanked s (UserEnable login) = refl
commanded_yanked s (TokenAdd login words patterns digest) = refl
commanded_yanked s (TokenRevoke id) = refl
commanded_yanked s (Reserve n) = by (is_reserved_always (canon n))
  where
    by : (b : Bool) → (cond b s (with_reserved (canon n) s)).yanked ≡ s.yanked
    by true = refl
    by false = refl
commanded_yanked s (Unreserve n) = refl
commanded_yanked s (OwnerAdd n login) = refl
commanded_yanked s (CrateRestrict n) = refl
commanded_yanked s (CrateOpen n) = refl
commanded_yanked s (ReaderAdd n login) = refl
commanded_yanked s (ReaderRemove n login) = refl
commanded_yanked s (Access n) = refl
commanded_yanked s Users = refl
commanded_yanked s Tokens = refl
commanded_yanked s Crates = refl

-- ---- publications

in_either : {X : Type 0} (xs : List X) (x y : X) → IsIn x (xs ++ y ∷ []) → IsIn x xs ⊎ (y ≡ x)
in_either [] x y (inl e) = inr e
in_either [] x y (inr i) = absurd i
in_either (z ∷ xs) x y (inl e) = inl (inl e)
in_either (z ∷ xs) x y (inr i) = more (in_either xs x y i)
  where
    more : IsIn x xs ⊎ (y ≡ x) → IsIn x (z ∷ xs) ⊎ (y ≡ x)
    more (inl j) = inl (inr j)
    more (inr e) = inr e

pub brings_publication : (limits : Limits) (p : Publication) (s : Registry) (e : Event) → IsIn p (outcome limits s e).1.publications → Brings limits s e (IsIn p s.publications) (Publishes p)
unfolding done
brings_publication limits p s (Ask None asked) i = asked_brings limits s (λ r. IsIn p r.publications) (Publishes p) None asked (λ e q. absurd (nobody_passes limits s asked e)) i
brings_publication limits p s (Ask (Some digest) asked) i = asked_brings limits s (λ r. IsIn p r.publications) (Publishes p) (Some digest) asked (so asked) i
  where
    so : (asked : Asked) → denied limits s (Some digest) asked ≡ None → IsIn p (done s (unwrap_or (caller s (Some digest)) 0) asked).publications → IsIn p s.publications ⊎ ((ws : List Text) × (request_words s asked ≡ Some ws) × Publishes p (with_asker s (Ask (Some digest) asked) ws))
    so (Publish q) e i = of (in_either s.publications p q i)
      where
        of : IsIn p s.publications ⊎ (q ≡ p) → IsIn p s.publications ⊎ ((ws : List Text) × (request_words s (Publish q) ≡ Some ws) × Publishes p (with_asker s (Ask (Some digest) (Publish q)) ws))
        of (inl j) = inl j
        of (inr same) = inr (_, refl, (refl, ap (λ x. x.name) same, ap (λ x. x.version) same))
    so (Yank n v) e i = inl i
    so (Unyank n v) e i = inl i
    so (AddOwners n logins) e i = inl i
    so (RemoveOwners n logins) e i = inl i
    so (Malformed r) e i = inl i
    so (Read what) e i = inl i
    so (Index path) e i = inl i
    so (Download n v) e i = inl i
    so (ListOwners n) e i = inl i
brings_publication limits p s (Order c) i = ordered_brings limits s (λ r. IsIn p r.publications) (Publishes p) c (λ e j. inl (subst (λ l. IsIn p l) (commanded_publications s c) j)) i

-- ---- marks

module _ (c v : Text) where
  yank_told : (limits : Limits) (s : Registry) (digest n w : Text) (b : Bool) → is_yanked s n w ≡ b → set.contains (set.insert s.yanked (canon n, w)) (c, v) ≡ true
      → (set.contains s.yanked (c, v) ≡ true) ⊎ ((ws : List Text) × (unless b (codes "yank" ∷ spelled s n ∷ w ∷ []) ≡ Some ws) × Yanks c v (with_asker s (Ask (Some digest) (Yank n w)) ws))
  yank_told limits s digest n w b is h =
      or_split (eq_by_cmp mark_cmp (c, v) (canon n, w)) (set.contains s.yanked (c, v)) (sym (set.contains-insert mark_total s.yanked (canon n, w) (c, v)) ∙ h)
      (λ tied. new b is (same_key mark_apart (c, v) (canon n, w) tied)) (λ old. inl old)
    where
      new : (b : Bool) → is_yanked s n w ≡ b → ◌≡◌ {A = Mark} (c, v) (canon n, w) → (set.contains s.yanked (c, v) ≡ true) ⊎ ((ws : List Text) × (unless b (codes "yank" ∷ spelled s n ∷ w ∷ []) ≡ Some ws) × Yanks c v (with_asker s (Ask (Some digest) (Yank n w)) ws))
      new true is e = inl (ap (set.contains s.yanked) e ∙ is)
      new false is e = inr (_, refl, (refl, spelled_canon s n ∙ ap (λ m. m.0) (sym e), ap (λ m. m.1) (sym e)))

  pub brings_mark : (limits : Limits) (s : Registry) (e : Event) → set.contains (outcome limits s e).1.yanked (c, v) ≡ true → Brings limits s e (set.contains s.yanked (c, v) ≡ true) (Yanks c v)
  unfolding done
  brings_mark limits s (Ask None asked) h = asked_brings limits s (λ r. set.contains r.yanked (c, v) ≡ true) (Yanks c v) None asked (λ e q. absurd (nobody_passes limits s asked e)) h
  brings_mark limits s (Ask (Some digest) asked) h = asked_brings limits s (λ r. set.contains r.yanked (c, v) ≡ true) (Yanks c v) (Some digest) asked (so asked) h
    where
      so : (asked : Asked) → denied limits s (Some digest) asked ≡ None → set.contains (done s (unwrap_or (caller s (Some digest)) 0) asked).yanked (c, v) ≡ true → (set.contains s.yanked (c, v) ≡ true) ⊎ ((ws : List Text) × (request_words s asked ≡ Some ws) × Yanks c v (with_asker s (Ask (Some digest) asked) ws))
      so (Publish q) e h = inl h
      so (Yank n w) e h = yank_told limits s digest n w (is_yanked s n w) refl h
      so (Unyank n w) e h = inl (and_parts _ _ (sym (set.contains-remove mark_total s.yanked (canon n, w) (c, v)) ∙ h)).1
      so (AddOwners n logins) e h = inl h
      so (RemoveOwners n logins) e h = inl h
      so (Malformed r) e h = inl h
      so (Read what) e h = inl h
      so (Index path) e h = inl h
      so (Download n v) e h = inl h
      so (ListOwners n) e h = inl h
  brings_mark limits s (Order d) h = ordered_brings limits s (λ r. set.contains r.yanked (c, v) ≡ true) (Yanks c v) d (λ e j. inl (sym (ap (λ y. set.contains y (c, v)) (commanded_yanked s d)) ∙ j)) h

-- ---- owners

-- the ids of logins, one by one
in_ids : (s : Registry) (login : Text) (id : ℕ) → IsIn id (ids_of s (login ∷ [])) → id_of_login s login ≡ Some id
in_ids s login id i = by (id_of_login s login) i
  where
    by : (o : Option ℕ) → IsIn id (filter_map (λ x. x) (o ∷ [])) → o ≡ Some id
    by None j = absurd j
    by (Some k) (inl e) = ap Some e
    by (Some k) (inr j) = absurd j

module _ (c : Text) (id : ℕ) where
  -- an owner among some keys of a crate
  among : (n : Text) (ids : List ℕ) → list_any (eq_by_cmp owner_cmp (c, id)) (map (λ k. (canon n, k)) ids) ≡ true → (canon n ≡ c) × IsIn id ids
  among n ids h =
      let found = any_in (λ k. eq_by_cmp owner_cmp (c, id) (canon n, k)) ids (sym (list_any-map (eq_by_cmp owner_cmp (c, id)) (λ k. (canon n, k)) ids) ∙ h) in
      is found.0 found.1 (same_key owner_apart (c, id) (canon n, found.0) found.2)
    where
      is : (k : ℕ) → IsIn k ids → ◌≡◌ {A = Owner} (c, id) (canon n, k) → (canon n ≡ c) × IsIn id ids
      is k i e = (sym (ap (λ o. o.0) e), subst (λ j. IsIn j ids) (sym (ap (λ o. o.1) e)) i)

  -- keys that are added: what is there already, or told of a change
  added : (s : Registry) (n : Text) (ids : List ℕ) (words : List Text) (G : List Text → Type 0) (b : Bool) → list_all (owns s n) ids ≡ b
      → (canon n ≡ c → IsIn id ids → G words)
      → set.contains (set.union s.owners (set.from_list (map (λ k. (canon n, k)) ids))) (c, id) ≡ true
      → (set.contains s.owners (c, id) ≡ true) ⊎ ((ws : List Text) × (unless b words ≡ Some ws) × G ws)
  added s n ids words G b all gives h =
      or_split (set.contains s.owners (c, id)) _ (sym (set.contains-union owner_total s.owners _ (c, id) ∙ ap (λ x. set.contains s.owners (c, id) || x) (set.contains-from_list owner_total (map (λ k. (canon n, k)) ids) (c, id))) ∙ h)
      (λ old. inl old) (λ new. of b all (among n ids new))
    where
      of : (b : Bool) → list_all (owns s n) ids ≡ b → (canon n ≡ c) × IsIn id ids → (set.contains s.owners (c, id) ≡ true) ⊎ ((ws : List Text) × (unless b words ≡ Some ws) × G ws)
      of true all k = inl (ap (λ x. set.contains s.owners (x, id)) (sym k.0) ∙ all_in (owns s n) ids id all k.1)
      of false all k = inr (words, refl, gives k.0 k.1)

  -- who publishes a crate first owns it
  published : (s : Registry) (digest : Text) (q : Publication) (b : Bool) → id_of_login s (login_of s (account_of s digest)) ≡ Some (unwrap_or (caller s (Some digest)) 0)
      → set.contains (cond b s.owners (set.insert s.owners (canon q.name, unwrap_or (caller s (Some digest)) 0))) (c, id) ≡ true
      → (set.contains s.owners (c, id) ≡ true) ⊎ ((ws : List Text) × (request_words s (Publish q) ≡ Some ws) × GivesOwner s c id (with_asker s (Ask (Some digest) (Publish q)) ws))
  published s digest q true who h = inl h
  published s digest q false who h =
      or_split (eq_by_cmp owner_cmp (c, id) (canon q.name, unwrap_or (caller s (Some digest)) 0)) _ (sym (set.contains-insert owner_total s.owners _ (c, id)) ∙ h)
      (λ tied. new (same_key owner_apart (c, id) (canon q.name, unwrap_or (caller s (Some digest)) 0) tied)) (λ old. inl old)
    where
      new : ◌≡◌ {A = Owner} (c, id) (canon q.name, unwrap_or (caller s (Some digest)) 0) → (set.contains s.owners (c, id) ≡ true) ⊎ ((ws : List Text) × (request_words s (Publish q) ≡ Some ws) × GivesOwner s c id (with_asker s (Ask (Some digest) (Publish q)) ws))
      new e = inr (codes "publish" ∷ q.name ∷ q.version ∷ [], refl, (sym (ap (λ o. o.0) e), inl (refl, who ∙ ap Some (sym (ap (λ o. o.1) e)))))

  pub brings_owner : (limits : Limits) (s : Registry) (e : Event) → Sound s → set.contains (outcome limits s e).1.owners (c, id) ≡ true → Brings limits s e (set.contains s.owners (c, id) ≡ true) (GivesOwner s c id)
  unfolding done commanded access_facts
  brings_owner limits s (Ask None asked) sound h = asked_brings limits s (λ r. set.contains r.owners (c, id) ≡ true) (GivesOwner s c id) None asked (λ e q. absurd (nobody_passes limits s asked e)) h
  brings_owner limits s (Ask (Some digest) asked) sound h = asked_brings limits s (λ r. set.contains r.owners (c, id) ≡ true) (GivesOwner s c id) (Some digest) asked (so asked) h
    where
      so : (asked : Asked) → denied limits s (Some digest) asked ≡ None → set.contains (done s (unwrap_or (caller s (Some digest)) 0) asked).owners (c, id) ≡ true → (set.contains s.owners (c, id) ≡ true) ⊎ ((ws : List Text) × (request_words s asked ≡ Some ws) × GivesOwner s c id (with_asker s (Ask (Some digest) asked) ws))
      so (Publish q) e h = published s digest q (exists s q.name) (asker_found s digest sound (first_clear _ (is_some (first s q.name)) _ _ (not_denied limits s digest (Publish q) e))) h
      so (AddOwners n logins) e h =
          added s n (ids_of s logins) (codes "add-owners" ∷ spelled s n ∷ with_commas logins ∷ []) (λ ws. GivesOwner s c id (with_asker s (Ask (Some digest) (AddOwners n logins)) ws)) (list_all (owns s n) (ids_of s logins)) refl
          (λ same i. (spelled_canon s n ∙ same, inr (inl (refl, subst (λ l. IsIn id (ids_of s l)) (sym (some_logins limits s digest sound logins (added_logins limits s sound digest n logins e) (λ none. subst (λ l. IsIn id (ids_of s l)) none i))) i)))) h
      so (RemoveOwners n logins) e h = inl (and_parts _ _ (sym (set.contains-difference owner_total s.owners _ (c, id)) ∙ h)).0
      so (Yank n v) e h = inl h
      so (Unyank n v) e h = inl h
      so (Malformed r) e h = inl h
      so (Read what) e h = inl h
      so (Index path) e h = inl h
      so (Download n v) e h = inl h
      so (ListOwners n) e h = inl h
  brings_owner limits s (Order d) sound h = ordered_brings limits s (λ r. set.contains r.owners (c, id) ≡ true) (GivesOwner s c id) d (so d) h
    where
      so : (d : Command) → refused limits s d ≡ None → set.contains (commanded s d).owners (c, id) ≡ true → (set.contains s.owners (c, id) ≡ true) ⊎ ((ws : List Text) × (command_words s d ≡ Some ws) × GivesOwner s c id (with_asker s (Order d) ws))
      so (OwnerAdd n login) e h =
          added s n (ids_of s (login ∷ [])) (codes "owner-add" ∷ spelled s n ∷ login ∷ []) (λ ws. GivesOwner s c id (with_asker s (Order (OwnerAdd n login)) ws)) (list_all (owns s n) (ids_of s (login ∷ []))) refl
          (λ same i. (spelled_canon s n ∙ same, inr (inr (refl, in_ids s login id i)))) h
      so (UserAdd login name) e h = inl h
      so (UserDisable login) e h = inl h
      so (UserEnable login) e h = inl h
      so (TokenAdd login words patterns digest) e h = inl h
      so (TokenRevoke k) e h = inl h
      so (Reserve n) e h = inl (same (is_reserved_always (canon n)) h)
        where
          same : (b : Bool) → set.contains (cond b s (with_reserved (canon n) s)).owners (c, id) ≡ true → set.contains s.owners (c, id) ≡ true
          same true h = h
          same false h = h
      so (Unreserve n) e h = inl h
      so (CrateRestrict n) e h = inl h
      so (CrateOpen n) e h = inl h
      so (ReaderAdd n login) e h = inl h
      so (ReaderRemove n login) e h = inl h
      so (Access n) e h = inl h
      so Users e h = inl h
      so Tokens e h = inl h
      so Crates e h = inl h

-- ---- logins keep their ids

position_more : {X : Type 0} (p : X → Bool) (k : ℕ) (xs ys : List X) (i : ℕ) → position_from p k xs ≡ Some i → position_from p k (xs ++ ys) ≡ Some i
position_more p k [] ys i h = cc
position_more p k (x ∷ xs) ys i h = by (p x) (λ e. position_more p (k + 1) xs ys i e) h
  where
    by : (b : Bool) → (position_from p (k + 1) xs ≡ Some i → position_from p (k + 1) (xs ++ ys) ≡ Some i) → cond b (Some k) (position_from p (k + 1) xs) ≡ Some i → cond b (Some k) (position_from p (k + 1) (xs ++ ys)) ≡ Some i
    by true more e = e
    by false more e = more e

enabled_place : (b : Bool) (login : Text) (k id : ℕ) (xs : List Account) → position_from (λ a. bytes_eq a.login login) k (change_at (λ (a : Account). record a { enabled = b }) id xs) ≡ position_from (λ a. bytes_eq a.login login) k xs
enabled_place b login k id xs = by (id == 0)
  where
    place : (i k : ℕ) (xs : List Account) → position_from (λ a. bytes_eq a.login login) k (change_place (λ (a : Account). record a { enabled = b }) i xs) ≡ position_from (λ a. bytes_eq a.login login) k xs
    place i k [] = refl
    place zero k (x ∷ xs) = refl
    place (suc i) k (x ∷ xs) = ap (cond (bytes_eq x.login login) (Some k)) (place i (k + 1) xs)

    by : (c : Bool) → position_from (λ a. bytes_eq a.login login) k (cond c xs (change_place (λ (a : Account). record a { enabled = b }) (id - 1) xs)) ≡ position_from (λ a. bytes_eq a.login login) k xs
    by true = refl
    by false = place (id - 1) k xs

enabled_login : (s : Registry) (b : Bool) (login : Text) (o : Option ℕ) → position_from (λ a. bytes_eq a.login login) 1 (enable b o s.accounts) ≡ id_of_login s login
enabled_login s b login None = refl
enabled_login s b login (Some id) = enabled_place b login 1 id s.accounts

commanded_login : (s : Registry) (c : Command) (login : Text) (i : ℕ) → id_of_login s login ≡ Some i → id_of_login (commanded s c) login ≡ Some i
unfolding commanded
commanded_login s (UserAdd l name) login i h = position_more (λ a. bytes_eq a.login login) 1 s.accounts _ i h
commanded_login s (UserDisable l) login i h = enabled_login s false login (id_of_login s l) ∙ h
commanded_login s (UserEnable l) login i h = enabled_login s true login (id_of_login s l) ∙ h
commanded_login s (TokenAdd l words patterns digest) login i h = h
commanded_login s (TokenRevoke id) login i h = h
commanded_login s (Reserve n) login i h = by (is_reserved_always (canon n))
  where
    by : (b : Bool) → id_of_login (cond b s (with_reserved (canon n) s)) login ≡ Some i
    by true = h
    by false = h
commanded_login s (Unreserve n) login i h = h
commanded_login s (OwnerAdd n l) login i h = h
commanded_login s (CrateRestrict n) login i h = h
commanded_login s (CrateOpen n) login i h = h
commanded_login s (ReaderAdd n l) login i h = h
commanded_login s (ReaderRemove n l) login i h = h
commanded_login s (Access n) login i h = h
commanded_login s Users login i h = h
commanded_login s Tokens login i h = h
commanded_login s Crates login i h = h

done_accounts : (s : Registry) (id : ℕ) (asked : Asked) → (done s id asked).accounts ≡ s.accounts
unfolding done
done_accounts s id (Publish p) = refl
done_accounts s id (Yank n v) = refl
done_accounts s id (Unyank n v) = refl
done_accounts s id (AddOwners n logins) = refl
done_accounts s id (RemoveOwners n logins) = refl
done_accounts s id (Malformed r) = refl
done_accounts s id (Read what) = refl
done_accounts s id (Index p) = refl
done_accounts s id (Download n v) = refl
done_accounts s id (ListOwners n) = refl

outcome_login : (limits : Limits) (s : Registry) (e : Event) (login : Text) (i : ℕ) → id_of_login s login ≡ Some i → id_of_login (outcome limits s e).1 login ≡ Some i
outcome_login limits s (Ask digest asked) login i h = by (denied limits s digest asked)
  where
    by : (o : Option Rule) → id_of_login (unless_denied s o (served s (caller s digest) asked, done s (unwrap_or (caller s digest) 0) asked)).1 login ≡ Some i
    by (Some r) = h
    by None = ap (position_from (λ a. bytes_eq a.login login) 1) (done_accounts s (unwrap_or (caller s digest) 0) asked) ∙ h
outcome_login limits s (Order c) login i h = by (refused limits s c)
  where
    by : (o : Option AdminRefusal) → id_of_login (unless_refused s o (replied s c, commanded s c)).1 login ≡ Some i
    by (Some g) = h
    by None = commanded_login s c login i h

step_login : (limits : Limits) (s m : Registry) (e : Event) (a : Answer) → Step limits s e a m → (login : Text) (i : ℕ) → id_of_login s login ≡ Some i → id_of_login m login ≡ Some i
step_login limits s m e a (inl (p, q)) login i h = ap (λ r. id_of_login r login) q ∙ outcome_login limits s e login i h
step_login limits s m e a (inr (p, q)) login i h = ap (λ r. id_of_login r login) q ∙ h

module _ (s m : Registry) (same : (login : Text) (i : ℕ) → id_of_login s login ≡ Some i → id_of_login m login ≡ Some i) where
  ids_on : (id : ℕ) (logins : List Text) → IsIn id (ids_of s logins) → IsIn id (ids_of m logins)
  ids_on id [] i = i
  ids_on id (l ∷ ls) i = by (id_of_login s l) refl (ids_on id ls) i
    where
      there : (o : Option ℕ) → IsIn id (ids_of m ls) → IsIn id (cons_option o (ids_of m ls))
      there None j = j
      there (Some k) j = inr j

      by : (o : Option ℕ) → id_of_login s l ≡ o → (IsIn id (ids_of s ls) → IsIn id (ids_of m ls)) → IsIn id (cons_option o (ids_of s ls)) → IsIn id (cons_option (id_of_login m l) (ids_of m ls))
      by None e more j = there (id_of_login m l) (more j)
      by (Some k) e more (inl f) = subst (λ o. IsIn id (cons_option o (ids_of m ls))) (sym (same l k e)) (inl f)
      by (Some k) e more (inr j) = there (id_of_login m l) (more j)

  gives_on : (c : Text) (id : ℕ) (ws : List Text) → GivesOwner s c id ws → GivesOwner m c id ws
  gives_on c id [] g = g
  gives_on c id (who ∷ []) g = g
  gives_on c id (who ∷ login ∷ []) g = g
  gives_on c id (who ∷ login ∷ verb ∷ []) g = g
  gives_on c id (who ∷ login ∷ verb ∷ n ∷ []) g = g
  gives_on c id (who ∷ login ∷ verb ∷ n ∷ x ∷ []) (at, inl (v, h)) = (at, inl (v, same login id h))
  gives_on c id (who ∷ login ∷ verb ∷ n ∷ x ∷ []) (at, inr (inl (v, h))) = (at, inr (inl (v, ids_on id (at_commas x) h)))
  gives_on c id (who ∷ login ∷ verb ∷ n ∷ x ∷ []) (at, inr (inr (v, h))) = (at, inr (inr (v, same x id h)))
  gives_on c id (who ∷ login ∷ verb ∷ n ∷ x ∷ y ∷ more) g = g

pub gives_stays : (c : Text) (id : ℕ) (limits : Limits) (s m : Registry) (e : Event) (a : Answer) (ws : List Text) → Step limits s e a m → GivesOwner s c id ws → GivesOwner m c id ws
gives_stays c id limits s m e a ws step g = gives_on s m (step_login limits s m e a step) c id ws g
