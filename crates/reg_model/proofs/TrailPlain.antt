-- The words of each event are words of plain characters.
use Rattle.reg_model.proofs.Words.{◌≡◌, ◌<◌, ◌≤◌, ◌^◌, ◌+◌, ◌-◌, ◌==◌, ℕ, zero, suc, List, [], ◌∷◌, Bool, true, false, cond, Option, Some}
use Rattle.reg_model.proofs.Words.{None, inl, inr, refl, sym, ◌∙◌, ap, subst, arith, ◌&&◌, not, codes, is_none, length, slice_get}
use Rattle.reg_model.proofs.Words.{unwrap_or, decimal, enumerate_from, find, list_all, list_any, position_from, AllByRecursion, option_map}
use Rattle.reg_model.proofs.Words.{bytes_eq, and_from, and_parts, bytes_eq-Decides, Limits, is_login, is_name, name_of, is_pattern, Text}
use Rattle.reg_model.proofs.Words.{Account, Publication, Registry, holds, id_of_login, is_enabled, is_known, with_id, collides, exists}
use Rattle.reg_model.proofs.Words.{owners, owns, versions, visible, account_of, Asked, Command, Event, Malformed, Read, Index, Download}
use Rattle.reg_model.proofs.Words.{ListOwners, Publish, Yank, Unyank, AddOwners, RemoveOwners, UserAdd, UserDisable, UserEnable, TokenAdd}
use Rattle.reg_model.proofs.Words.{TokenRevoke, Reserve, Unreserve, OwnerAdd, Access, Users, Tokens, Crates, CrateRestrict, CrateOpen}
use Rattle.reg_model.proofs.Words.{ReaderAdd, ReaderRemove, Ask, Order, has_login, lists, is_endpoint, may_name, patterns_given, login_of}
use Rattle.reg_model.proofs.Words.{with_commas, Sound, is_account, IsFit, IsGenuine, command_words, event_words, id_of_token, line_of}
use Rattle.reg_model.proofs.Words.{only_if, request_words, spelled, unless, unless_some, with_asker, words_of, HasIds, are_words, is_plain}
use Rattle.reg_model.proofs.Words.{is_word}
use Rattle.reg_model.specs.Facts.{access_facts, counts}
use Rattle.reg_model.specs.Refusals.{denied, refused}
use Rattle.reg_model.proofs.Cleared.{not_denied, not_refused}
use Rattle.reg_model.proofs.IndexPaths.{not_false}
use Rattle.reg_model.proofs.Lists.{all_so, any_filter, found_passes, or_split, some_found}
use Rattle.reg_model.proofs.Members.{IsIn, any_in, each_in}
use Rattle.reg_model.proofs.Places.{found_id}
use Rattle.reg_model.specs.Trail.{asker, name_words}
use Rattle.reg_model.specs.TrailLaws.{IsLine}
use Rattle.reg_model.proofs.TrailTold.{some_only_if}
use Rattle.reg_model.proofs.TrailUntold.{neither}
use Rattle.reg_model.proofs.TrailWords.{decimal_word, joined_pass, line_printed, line_read, login_word, name_word, pattern_word, printed_words, version_word}

-- ---- lists

passes_at : {X : Type 0} (p : X → Bool) (xs : List X) (i : ℕ) (x : X) → list_all p xs ≡ true → slice_get xs i ≡ Some x → p x ≡ true
passes_at p [] i x h e = cc
passes_at p (y ∷ ys) zero x h e = let same : y ≡ x = cc in ap p (sym same) ∙ (and_parts _ _ h).0
passes_at p (y ∷ ys) (suc i) x h e = passes_at p ys i x (and_parts _ _ h).1 e

place_below : {X : Type 0} (xs : List X) (i : ℕ) (x : X) → slice_get xs i ≡ Some x → i < length xs
place_below [] i x e = cc
place_below (y ∷ ys) zero x e = omega arith
place_below (y ∷ ys) (suc i) x e = let h = place_below ys i x e in omega arith

-- what has an id passes, and the id is no greater than their number
pub passes_id : {X : Type 0} (p : X → Bool) (xs : List X) (id : ℕ) (x : X) → list_all p xs ≡ true → with_id xs id ≡ Some x → p x ≡ true
passes_id p xs id x h e = elim (id == 0) as (λ b. cond b None (slice_get xs (id - 1)) ≡ Some x → p x ≡ true) [ true ↦ λ k. cc | false ↦ λ k. passes_at p xs (id - 1) x h k ] e

id_within : {X : Type 0} (xs : List X) (id : ℕ) (x : X) → with_id xs id ≡ Some x → id ≤ length xs
id_within xs id x e = elim (id == 0) as (λ b. cond b None (slice_get xs (id - 1)) ≡ Some x → id ≤ length xs) [ true ↦ λ k. cc | false ↦ λ k. let h = place_below xs (id - 1) x k in omega arith ] e

pub holds_within : {X : Type 0} (p : X → Bool) (xs : List X) (id : ℕ) → holds p (with_id xs id) ≡ true → id ≤ length xs
holds_within {X = X} p xs id h = by (with_id xs id) refl h
  where
    by : (o : Option X) → with_id xs id ≡ o → holds p o ≡ true → id ≤ length xs
    by None e k = cc
    by (Some x) e k = id_within xs id x e

enumerated_pass : {X : Type 0} (p : X → Bool) (k : ℕ) (xs : List X) (o : ℕ × X) → list_all p xs ≡ true → IsIn o (enumerate_from k xs) → p o.1 ≡ true
enumerated_pass p k [] o h i = absurd i
enumerated_pass p k (x ∷ xs) o h (inl e) = ap (λ q. p q.1) (sym e) ∙ (and_parts _ _ h).0
enumerated_pass p k (x ∷ xs) o h (inr i) = enumerated_pass p (k + 1) xs o (and_parts _ _ h).1 i

-- ---- logins

module _ (s : Registry) (sound : Sound s) where
  account_login : (id : ℕ) (a : Account) → with_id s.accounts id ≡ Some a → is_login a.login ≡ true
  account_login id a e = (and_parts _ _ (passes_id is_account s.accounts id a sound.accounts e)).0

  pub login_of_word : (id : ℕ) → is_word (login_of s id) ≡ true
  login_of_word id = by (with_id s.accounts id) refl
    where
      by : (o : Option Account) → with_id s.accounts id ≡ o → is_word (unwrap_or (option_map (λ a. a.login) o) []) ≡ true
      by None e = refl
      by (Some a) e = login_word a.login (account_login id a e)

  pub there_login : (login : Text) (o : Option ℕ) → id_of_login s login ≡ o → is_none o ≡ false → is_login login ≡ true
  there_login login None e h = cc
  there_login login (Some id) e h =
      let a = found_id (λ x. bytes_eq x.login login) s.accounts id e in
      ap is_login (sym ((bytes_eq-Decides a.0.login login).0 a.2)) ∙ account_login id a.0 a.1

  pub known_login : (login : Text) → is_known s login ≡ true → is_login login ≡ true
  known_login login h = there_login login (id_of_login s login) refl (some (id_of_login s login) h)
    where
      some : (o : Option ℕ) → holds (is_enabled s) o ≡ true → is_none o ≡ false
      some None h = cc
      some (Some id) h = refl

  owner_login : (n : Text) (login : Text) → has_login (owners s n) login ≡ true → is_login login ≡ true
  owner_login n login h =
      let found = any_in _ (enumerate_from 1 s.accounts) (sym (any_filter (λ o. owns s n o.0) (λ o. bytes_eq o.1.login login) (enumerate_from 1 s.accounts)) ∙ h) in
      let a = enumerated_pass is_account 1 s.accounts found.0 sound.accounts found.1 in
      ap is_login (sym ((bytes_eq-Decides found.0.1.login login).0 (and_parts _ _ found.2).1)) ∙ (and_parts _ _ a).0

  -- ---- crates and versions

  each_named : (ps : List Publication) → AllByRecursion IsGenuine ps → list_all (λ p. is_name p.name) ps ≡ true
  each_named [] h = refl
  each_named (p ∷ ps) h = and_from _ _ h.0.name (each_named ps h.1)

  spelled_word : (n : Text) → exists s n ≡ true → is_word (spelled s n) ≡ true
  spelled_word n there =
      let some = some_found (λ p. collides p.name n) s.publications ∙ there in
      by (find (λ p. collides p.name n) s.publications) (found_passes (λ p. collides p.name n) (λ p. is_name p.name) s.publications (each_named s.publications sound.publications) some)
    where
      by : (o : Option Publication) → holds (λ p. is_name p.name) o ≡ true → is_word (unwrap_or (option_map (λ p. p.name) o) n) ≡ true
      by None h = cc
      by (Some p) h = name_word p.name h

  version_there : (n v : Text) → list_any (λ p. bytes_eq p.version v) (versions s n) ≡ true → is_word v ≡ true
  version_there n v h =
      let found = any_in _ s.publications (sym (any_filter (λ p. collides p.name n) (λ p. bytes_eq p.version v) s.publications) ∙ h) in
      ap is_word (sym ((bytes_eq-Decides found.0.version v).0 (and_parts _ _ found.2).1)) ∙ version_word found.0.version (each_in IsGenuine s.publications found.0 sound.publications found.1).version

  -- ---- who asks

  pub token_number : HasIds s → (digest : Text) → id_of_token s digest < 2 ^ 64
  token_number ids digest = small (position_from (λ t. bytes_eq t.digest digest) 1 s.tokens) refl
    where
      small : (o : Option ℕ) → position_from (λ t. bytes_eq t.digest digest) 1 s.tokens ≡ o → unwrap_or o 0 < 2 ^ 64
      small None e = omega arith
      small (Some id) e = let a = found_id (λ t. bytes_eq t.digest digest) s.tokens id e in let h = id_within s.tokens id a.0 a.1 in omega (arith, ids)

  pub asker_words : HasIds s → (digest : Text) → are_words (asker s digest) ≡ true
  asker_words ids digest = and_from _ _ (decimal_word (id_of_token s digest) (token_number ids digest)) (and_from _ _ (login_of_word (account_of s digest)) refl)

-- ---- requests

pub comma_word : (ws : List Text) → list_all is_word ws ≡ true → is_word (with_commas ws) ≡ true
comma_word ws h = joined_pass is_plain 44 refl ws h

-- what holds of the crate of a name in a path says that it is a name
of_name : (p : Text → Bool) (n : Text) → holds p (name_of n) ≡ true → p n ≡ true
of_name p n h = elim (is_name n) as (λ b. holds p (cond b (Some n) None) ≡ true → p n ≡ true) [ true ↦ λ k. k | false ↦ λ k. cc ] h

any_of_name : {X : Type 0} (f : Text → List X) (p : X → Bool) (n : Text) → list_any p (lists f (name_of n)) ≡ true → list_any p (f n) ≡ true
any_of_name f p n h = elim (is_name n) as (λ b. list_any p (lists f (cond b (Some n) None)) ≡ true → list_any p (f n) ≡ true) [ true ↦ λ k. k | false ↦ λ k. cc ] h

visible_exists : (s : Registry) (digest n : Text) → visible s digest n ≡ true → exists s n ≡ true
visible_exists s digest n h = (and_parts _ _ h).0

pub told_words : (b : Bool) (words ws : List Text) → unless b words ≡ Some ws → words ≡ ws
told_words true words ws e = cc
told_words false words ws e = cc

pub only_words : (b : Bool) (words ws : List Text) → only_if b words ≡ Some ws → words ≡ ws
only_words true words ws e = cc
only_words false words ws e = cc

module _ (limits : Limits) (s : Registry) (sound : Sound s) (digest : Text) where
  there_word : (n : Text) → not (holds (visible s digest) (name_of n)) ≡ false → is_word (spelled s n) ≡ true
  there_word n h = spelled_word s sound n (visible_exists s digest n (of_name (visible s digest) n (not_false _ h)))

  found_word : (n v : Text) → not (list_any (λ p. bytes_eq p.version v) (lists (versions s) (name_of n))) ≡ false → is_word v ≡ true
  found_word n v h = version_there s sound n v (any_of_name (versions s) (λ p. bytes_eq p.version v) n (not_false _ h))

  owning_login : (n login : Text) → has_login (lists (owners s) (name_of n)) login ≡ true → is_login login ≡ true
  owning_login n login h = owner_login s sound n login (any_of_name (owners s) (λ o. bytes_eq o.1.login login) n h)

  -- the logins of a request about owners are logins
  pub added_logins : (n : Text) (logins : List Text) → denied limits s (Some digest) (AddOwners n logins) ≡ None → list_all is_login logins ≡ true
  unfolding access_facts counts
  added_logins n logins ok =
      let c = not_denied limits s digest (AddOwners n logins) ok in
      all_so (is_known s) is_login (known_login s sound) logins (not_false _ c.1.1.1.1.1.1.1.0)

  pub removed_logins : (n : Text) (logins : List Text) → denied limits s (Some digest) (RemoveOwners n logins) ≡ None → list_all is_login logins ≡ true
  unfolding access_facts counts
  removed_logins n logins ok =
      let c = not_denied limits s digest (RemoveOwners n logins) ok in
      all_so (has_login (lists (owners s) (name_of n))) is_login (owning_login n) logins (not_false _ c.1.1.1.1.1.1.1.0)

  three : (u v w : Text) → is_word u ≡ true → is_word v ≡ true → is_word w ≡ true → are_words (u ∷ v ∷ w ∷ []) ≡ true
  three u v w a b c = and_from _ _ a (and_from _ _ b (and_from _ _ c refl))

  pub request_plain : (asked : Asked) (ws : List Text) → IsFit (Ask (Some digest) asked) → denied limits s (Some digest) asked ≡ None → request_words s asked ≡ Some ws → are_words ws ≡ true
  unfolding access_facts counts
  request_plain (Publish p) ws fit ok h =
      subst (λ w. are_words w ≡ true) (told_words false _ ws h) (three (codes "publish") p.name p.version refl (name_word p.name fit.name) (version_word p.version fit.version))
  request_plain (Yank n v) ws fit ok h =
      let c = not_denied limits s digest (Yank n v) ok in
      subst (λ w. are_words w ≡ true) (told_words _ _ ws h) (three (codes "yank") (spelled s n) v refl (there_word n c.1.1.1.1.0) (found_word n v c.1.1.1.1.1.1.1.0))
  request_plain (Unyank n v) ws fit ok h =
      let c = not_denied limits s digest (Unyank n v) ok in
      subst (λ w. are_words w ≡ true) (only_words _ _ ws h) (three (codes "unyank") (spelled s n) v refl (there_word n c.1.1.1.1.0) (found_word n v c.1.1.1.1.1.1.1.0))
  request_plain (AddOwners n logins) ws fit ok h =
      let c = not_denied limits s digest (AddOwners n logins) ok in
      subst (λ w. are_words w ≡ true) (told_words _ _ ws h) (three (codes "add-owners") (spelled s n) (with_commas logins) refl (there_word n c.1.1.1.1.0)
      (comma_word logins (all_so is_login is_word login_word logins (added_logins n logins ok))))
  request_plain (RemoveOwners n logins) ws fit ok h =
      let c = not_denied limits s digest (RemoveOwners n logins) ok in
      subst (λ w. are_words w ≡ true) (only_words _ _ ws h) (three (codes "remove-owners") (spelled s n) (with_commas logins) refl (there_word n c.1.1.1.1.0)
      (comma_word logins (all_so is_login is_word login_word logins (removed_logins n logins ok))))
  request_plain (Malformed r) ws fit ok h = cc
  request_plain (Read what) ws fit ok h = cc
  request_plain (Index p) ws fit ok h = cc
  request_plain (Download n v) ws fit ok h = cc
  request_plain (ListOwners n) ws fit ok h = cc

-- ---- commands

-- an endpoint's word passes where the four do
pub endpoint_pass : (p : Text → Bool) → p (codes "publish-new") ≡ true → p (codes "publish-update") ≡ true → p (codes "yank") ≡ true → p (codes "change-owners") ≡ true → (w : Text) → is_endpoint w ≡ true → p w ≡ true
endpoint_pass p new update yank owners w h =
    or_split (bytes_eq w (codes "publish-new")) _ h (λ e. same (codes "publish-new") e new)
    (λ h. or_split (bytes_eq w (codes "publish-update")) _ h (λ e. same (codes "publish-update") e update)
    (λ h. or_split (bytes_eq w (codes "yank")) _ h (λ e. same (codes "yank") e yank)
    (λ h. or_split (bytes_eq w (codes "change-owners")) _ h (λ e. same (codes "change-owners") e owners) (λ e. cc))))
  where
    same : (v : Text) → bytes_eq w v ≡ true → p v ≡ true → p w ≡ true
    same v e k = ap p ((bytes_eq-Decides w v).0 e) ∙ k

endpoint_word : (w : Text) → is_endpoint w ≡ true → is_word w ≡ true
endpoint_word w h = endpoint_pass is_word refl refl refl refl w h

patterns_word : (ps : List Text) → list_all is_pattern ps ≡ true → is_word (with_commas (patterns_given ps)) ≡ true
patterns_word [] h = refl
patterns_word (p ∷ ps) h = comma_word (p ∷ ps) (all_so is_pattern is_word pattern_word (p ∷ ps) h)

name_plain : (name : Option Text) → may_name name ≡ true → are_words (name_words name) ≡ true
name_plain None h = refl
name_plain (Some t) h = and_from _ _ refl (printed_words t (and_parts _ _ h).1)

two : (u v : Text) → is_word u ≡ true → is_word v ≡ true → are_words (u ∷ v ∷ []) ≡ true
two u v a b = and_from _ _ a (and_from _ _ b refl)

module _ (limits : Limits) (s : Registry) (sound : Sound s) (ids : HasIds s) where
  crate_word : (n : Text) → not (is_name n && exists s n) ≡ false → is_word (spelled s n) ≡ true
  crate_word n h = spelled_word s sound n (and_parts (is_name n) _ (not_false _ h)).1

  login_there : (login : Text) → is_none (id_of_login s login) ≡ false → is_word login ≡ true
  login_there login h = login_word login (there_login s sound login (id_of_login s login) refl h)

  crate_login : (w n login : Text) → is_word w ≡ true → not (is_name n && exists s n) ≡ false → is_none (id_of_login s login) ≡ false → are_words (w ∷ spelled s n ∷ login ∷ []) ≡ true
  crate_login w n login a h k = and_from _ _ a (and_from _ _ (crate_word n h) (and_from _ _ (login_there login k) refl))

  pub command_plain : (c : Command) (ws : List Text) → refused limits s c ≡ None → command_words s c ≡ Some ws → are_words ws ≡ true
  command_plain (UserAdd login name) ws ok h =
      let g = and_parts (is_login login) (may_name name) (not_false _ (not_refused limits s (UserAdd login name) ok).0) in
      subst (λ w. are_words w ≡ true) (told_words false _ ws h) (and_from _ _ refl (and_from _ _ (login_word login g.0) (name_plain name g.1)))
  command_plain (UserDisable login) ws ok h = subst (λ w. are_words w ≡ true) (only_words _ _ ws h) (two (codes "user-disable") login refl (login_there login (not_refused limits s (UserDisable login) ok).0))
  command_plain (UserEnable login) ws ok h = subst (λ w. are_words w ≡ true) (told_words _ _ ws h) (two (codes "user-enable") login refl (login_there login (not_refused limits s (UserEnable login) ok).0))
  command_plain (TokenAdd login words patterns digest) ws ok h =
      let g = not_refused limits s (TokenAdd login words patterns digest) ok in
      subst (λ w. are_words w ≡ true) (told_words false _ ws h) (and_from _ _ refl (and_from _ _ (login_there login g.0) (and_from _ _ refl
      (and_from _ _ (comma_word words (all_so is_endpoint is_word endpoint_word words (not_false _ (neither _ _ g.1.0).1)))
      (and_from _ _ refl (and_from _ _ (patterns_word patterns (not_false _ g.1.1.0)) refl))))))
  command_plain (TokenRevoke id) ws ok h = subst (λ w. are_words w ≡ true) (only_words _ _ ws h) (two (codes "token-revoke") (decimal id) refl (decimal_word id (small id (some_only_if _ _ ws h))))
    where
      small : (id : ℕ) → holds (λ t. t.live) (with_id s.tokens id) ≡ true → id < 2 ^ 64
      small id live = let k = holds_within (λ t. t.live) s.tokens id live in omega (arith, ids)
  command_plain (Reserve n) ws ok h = subst (λ w. are_words w ≡ true) (told_words _ _ ws h) (two (codes "reserve") n refl (name_word n (not_false _ (not_refused limits s (Reserve n) ok).0)))
  command_plain (Unreserve n) ws ok h = subst (λ w. are_words w ≡ true) (only_words _ _ ws h) (two (codes "unreserve") n refl (name_word n (not_false _ (not_refused limits s (Unreserve n) ok).0)))
  command_plain (OwnerAdd n login) ws ok h = let g = not_refused limits s (OwnerAdd n login) ok in subst (λ w. are_words w ≡ true) (told_words _ _ ws h) (crate_login (codes "owner-add") n login refl g.0 g.1.0)
  command_plain (CrateRestrict n) ws ok h = subst (λ w. are_words w ≡ true) (told_words _ _ ws h) (two (codes "crate-restrict") (spelled s n) refl (crate_word n (not_refused limits s (CrateRestrict n) ok).0))
  command_plain (CrateOpen n) ws ok h = subst (λ w. are_words w ≡ true) (only_words _ _ ws h) (two (codes "crate-open") (spelled s n) refl (crate_word n (not_refused limits s (CrateOpen n) ok).0))
  command_plain (ReaderAdd n login) ws ok h = let g = not_refused limits s (ReaderAdd n login) ok in subst (λ w. are_words w ≡ true) (told_words _ _ ws h) (crate_login (codes "reader-add") n login refl g.0 g.1.0)
  command_plain (ReaderRemove n login) ws ok h = let g = not_refused limits s (ReaderRemove n login) ok in subst (λ w. are_words w ≡ true) (only_words _ _ ws h) (crate_login (codes "reader-remove") n login refl g.0 g.1.0)
  command_plain (Access n) ws ok h = cc
  command_plain Users ws ok h = cc
  command_plain Tokens ws ok h = cc
  command_plain Crates ws ok h = cc

-- ---- events

-- words are told only of what is not refused
pub unrefused : {X : Type 0} (o : Option X) (w : Option (List Text)) (ws : List Text) → unless_some o w ≡ Some ws → (o ≡ None) × (w ≡ Some ws)
unrefused None w ws e = (refl, e)
unrefused (Some x) w ws e = cc

pub read_line : (w : Text) (ws : List Text) → are_words (w ∷ ws) ≡ true → IsLine (line_of (w ∷ ws)) × (words_of (line_of (w ∷ ws)) ≡ w ∷ ws)
read_line w ws h = ((_, refl, line_printed (w ∷ ws) h), line_read w ws h)

pub nobody : (limits : Limits) (s : Registry) (asked : Asked) (ws : List Text) → unless_some (denied limits s None asked) (request_words s asked) ≡ Some ws → ⊥
unfolding denied
nobody limits s asked ws h = cc

-- what is told of an event, behind who it was, is of plain words, the first of which is there
pub event_plain : (limits : Limits) (s : Registry) (e : Event) (words : List Text) → Sound s → HasIds s → IsFit e → event_words limits s e ≡ Some words → (w : Text) × (ws : List Text) × (with_asker s e words ≡ w ∷ ws) × (are_words (w ∷ ws) ≡ true)
event_plain limits s (Ask None asked) words sound ids fit h = absurd (nobody limits s asked words h)
event_plain limits s (Ask (Some digest) asked) words sound ids fit h =
    let k = unrefused (denied limits s (Some digest) asked) (request_words s asked) words h in
    let a = and_parts _ _ (asker_words s sound ids digest) in
    (_, _, refl, and_from _ _ a.0 (and_from _ _ (and_parts _ _ a.1).0 (request_plain limits s sound digest asked words fit k.0 k.1)))
event_plain limits s (Order c) words sound ids fit h =
    let k = unrefused (refused limits s c) (command_words s c) words h in
    (_, _, refl, and_from _ _ refl (and_from _ _ refl (command_plain limits s sound ids c words k.0 k.1)))

pub lines_are_read : (limits : Limits) (s : Registry) (e : Event) (words : List Text) → Sound s → HasIds s → IsFit e → event_words limits s e ≡ Some words → IsLine (line_of (with_asker s e words)) × (words_of (line_of (with_asker s e words)) ≡ with_asker s e words)
lines_are_read limits s e words sound ids fit h =
    let k = event_plain limits s e words sound ids fit h in
    subst (λ all. IsLine (line_of all) × (words_of (line_of all) ≡ all)) (sym k.2) (read_line k.0 k.1 k.3)
