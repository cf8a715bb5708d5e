-- What a line tells, done again, is what was done.
use Rattle.reg_model.proofs.Words.{◌≡◌, ◌<◌, ◌^◌, ◌+◌, ◌-◌, ◌==◌, ℕ, zero, suc, List, [], ◌∷◌, Bool, true, false, cond, Option, Some, None}
use Rattle.reg_model.proofs.Words.{inl, inr, refl, sym, ◌∙◌, ap, map, subst, arith, ◌||◌, not, codes, if◌then◌else◌, is_some, length}
use Rattle.reg_model.proofs.Words.{slice_get, unwrap_or, decimal, All, AllByRecursion, find, join_with_byte, list_all, list_any}
use Rattle.reg_model.proofs.Words.{position_from, option_map, on, all_ascii_digits, bytes_eq, and_parts, nat_tests, digits_decimal}
use Rattle.reg_model.proofs.Words.{All-from_recursion, join_with_byte-slice_split, slice_split_at, slice_split_none, bytes_eq-Decides}
use Rattle.reg_model.proofs.Words.{numerals_by_value, tells_all_ascii_digits, Limits, is_login, is_login_byte, canon, is_name, is_name_byte}
use Rattle.reg_model.proofs.Words.{is_pattern, Rule, Text, Account, Publication, Registry, Token, holds, id_of_login, ids_of, token_of}
use Rattle.reg_model.proofs.Words.{with_id, collides, first, owns, account_of, caller, replied, served, Asked, Command, Event, Malformed, Read}
use Rattle.reg_model.proofs.Words.{Index, Download, ListOwners, Publish, Yank, Unyank, AddOwners, RemoveOwners, UserAdd, UserDisable}
use Rattle.reg_model.proofs.Words.{UserEnable, TokenAdd, TokenRevoke, Reserve, Unreserve, OwnerAdd, Access, Users, Tokens, Crates}
use Rattle.reg_model.proofs.Words.{CrateRestrict, CrateOpen, ReaderAdd, ReaderRemove, Ask, Order, endpoints_named, is_endpoint}
use Rattle.reg_model.proofs.Words.{patterns_given, login_of, with_commas, Sound, is_token, outcome, unless_denied, unless_refused}
use Rattle.reg_model.proofs.Words.{command_words, event_words, id_of_token, request_words, spelled, with_asker, words_in, HasIds, AreAlike}
use Rattle.reg_model.proofs.Words.{asked_in, at_commas, command_in, replayed}
use Rattle.std.specs.List.{IsDistinct, count_by}
use Rattle.std.specs.FinSet as set
use Rattle.std.specs.Str.Parse.{digits_value}
use Rattle.std.proofs.lemmas.Fmt.{digits_value-decimal}
use Rattle.std.proofs.lemmas.List.Splits.{length-slice_split}
use Rattle.reg_model.specs.declared.rule.Rule.TheVariants as rule
use Rattle.reg_model.specs.Changes.{with_token}
use Rattle.reg_model.specs.Effects.{commanded, done}
use Rattle.reg_model.specs.Refusals.{denied, refused}
use Rattle.reg_model.specs.Facts.{access_facts}
use Rattle.reg_model.proofs.Cleared.{Clear, not_denied, not_refused}
use Rattle.reg_model.proofs.IndexPaths.{not_false}
use Rattle.reg_model.proofs.Lists.{all_so, found_passes}
use Rattle.reg_model.specs.Replay.{bare}
use Rattle.reg_model.proofs.TrailAlike.{alike_self, publish_alike, token_alike}
use Rattle.reg_model.proofs.TrailPlain.{added_logins, endpoint_pass, holds_within, nobody, only_words, removed_logins, token_number, told_words, unrefused}
use Rattle.reg_model.proofs.TrailTold.{some_only_if, some_unless}
use Rattle.reg_model.proofs.TrailUntold.{neither}
use Rattle.reg_model.proofs.TrailWords.{pattern_pass}

-- a number is no other word
pub no_verb : (verb : Text) → all_ascii_digits verb ≡ false → (n : ℕ) → n < 2 ^ 64 → bytes_eq (decimal n) verb ≡ false
no_verb verb other n small = by (bytes_eq (decimal n) verb) refl
  where
    digits : (t : Text) → t ≡ verb → all_ascii_digits t ≡ true → ⊥
    digits t e h = let it : all_ascii_digits verb ≡ true = ap all_ascii_digits (sym e) ∙ h in cc

    by : (b : Bool) → bytes_eq (decimal n) verb ≡ b → b ≡ false
    by true e = absurd (digits (decimal n) ((bytes_eq-Decides (decimal n) verb).0 e) (digits_decimal (numerals_by_value _ tells_all_ascii_digits) n small))
    by false e = refl

number_is_no_dash : (n : ℕ) → n < 2 ^ 64 → bytes_eq (decimal n) (codes "-") ≡ false
number_is_no_dash n small = no_verb (codes "-") refl n small

-- ---- texts between commas

abbrev uncut : ℕ → Bool
uncut b = not (b == 44)

each_uncut : (t : Text) → list_all uncut t ≡ true → All (λ b. (b == 44) ≡ false) t
each_uncut t h = All-from_recursion (λ b. (b == 44) ≡ false) t (each t h)
  where
    no : (b : Bool) → not b ≡ true → b ≡ false
    no true e = cc
    no false e = refl

    each : (t : Text) → list_all uncut t ≡ true → AllByRecursion (λ b. (b == 44) ≡ false) t
    each [] h = tt
    each (b ∷ t) h = let k = and_parts _ _ h in (no (b == 44) k.0, each t k.1)

cut_again : (w : Text) (ws : List Text) → list_all (list_all uncut) (w ∷ ws) ≡ true → at_commas (with_commas (w ∷ ws)) ≡ w ∷ ws
cut_again w [] h = slice_split_none (λ b. b == 44) w (each_uncut w (and_parts _ _ h).0)
cut_again w (v ∷ ws) h = slice_split_at (λ b. b == 44) w 44 (join_with_byte 44 (v ∷ ws)) (each_uncut w (and_parts _ _ h).0) refl ∙ ap (λ rest. w ∷ rest) (cut_again v ws (and_parts _ _ h).1)

login_uncut : (t : Text) → is_login t ≡ true → list_all uncut t ≡ true
login_uncut t h = all_so is_login_byte uncut byte t (and_parts _ _ (and_parts _ _ h).1).1
  where
    byte : (b : ℕ) → is_login_byte b ≡ true → uncut b ≡ true
    byte b e = grind (arith, nat_tests)

name_uncut : (t : Text) → is_name t ≡ true → list_all uncut t ≡ true
name_uncut t h = all_so is_name_byte uncut byte t (and_parts _ _ (and_parts _ _ h).1).1
  where
    byte : (b : ℕ) → is_name_byte b ≡ true → uncut b ≡ true
    byte b e = grind (arith, nat_tests)

pattern_uncut : (t : Text) → is_pattern t ≡ true → list_all uncut t ≡ true
pattern_uncut t e = pattern_pass uncut name_uncut refl t e

endpoint_uncut : (w : Text) → is_endpoint w ≡ true → list_all uncut w ≡ true
endpoint_uncut w h = endpoint_pass (list_all uncut) refl refl refl refl w h

-- ---- crates and accounts

found_is : {X : Type 0} (p : X → Bool) (xs : List X) (x : X) → find p xs ≡ Some x → p x ≡ true
found_is p [] x e = cc
found_is p (y ∷ ys) x e = by (λ k. found_is p ys x k) (p y) refl e
  where
    by : (find p ys ≡ Some x → p x ≡ true) → (b : Bool) → p y ≡ b → cond b (Some y) (find p ys) ≡ Some x → p x ≡ true
    by more true h k = let same : y ≡ x = cc in ap p (sym same) ∙ h
    by more false h k = more k

pub spelled_canon : (s : Registry) (n : Text) → canon (spelled s n) ≡ canon n
spelled_canon s n = by (find (λ p. collides p.name n) s.publications) refl
  where
    by : (o : Option Publication) → find (λ p. collides p.name n) s.publications ≡ o → canon (unwrap_or (option_map (λ p. p.name) o) n) ≡ canon n
    by None e = refl
    by (Some p) e = (bytes_eq-Decides (canon p.name) (canon n)).0 (found_is (λ p. collides p.name n) s.publications p e)

login_place : (xs : List Account) (k i : ℕ) (a : Account) → IsDistinct (on (λ x. x.login) bytes_eq) xs → slice_get xs i ≡ Some a → position_from (λ x. bytes_eq x.login a.login) k xs ≡ Some (k + i)
unfolding IsDistinct
login_place [] k i a d e = cc
login_place (x ∷ xs) k zero a d e =
    let same : x ≡ a = cc in
    ap (λ b. cond b (Some k) (position_from (λ y. bytes_eq y.login a.login) (k + 1) xs)) ((bytes_eq-Decides x.login a.login).1 (ap (λ y. y.login) same)) ∙ ap Some (omega arith)
login_place (x ∷ xs) k (suc i) a d e =
    ap (λ b. cond b (Some k) (position_from (λ y. bytes_eq y.login a.login) (k + 1) xs)) (apart_at (λ y. bytes_eq x.login y.login) xs i a d.0 e) ∙ login_place xs (k + 1) i a d.1 e ∙ ap Some (omega arith)
  where
    apart_at : (p : Account → Bool) (xs : List Account) (i : ℕ) (a : Account) → AllByRecursion (λ y. p y ≡ false) xs → slice_get xs i ≡ Some a → p a ≡ false
    apart_at p [] i a h e = cc
    apart_at p (y ∷ ys) zero a h e = let same : y ≡ a = cc in ap p (sym same) ∙ h.0
    apart_at p (y ∷ ys) (suc i) a h e = apart_at p ys i a h.1 e

-- an account is found by its login
next : (id : ℕ) → (id == 0) ≡ false → 1 + (id - 1) ≡ id
next id z = grind (arith, nat_tests)

-- an account is found by its login
login_again : (s : Registry) (id : ℕ) (a : Account) → Sound s → with_id s.accounts id ≡ Some a → id_of_login s (login_of s id) ≡ Some id
login_again s id a sound e = ap (λ o. id_of_login s (unwrap_or (option_map (λ x. x.login) o) [])) e ∙ by (id == 0) refl e
  where
    by : (b : Bool) → (id == 0) ≡ b → cond b None (slice_get s.accounts (id - 1)) ≡ Some a → id_of_login s a.login ≡ Some id
    by true z k = cc
    by false z k = login_place s.accounts 1 (id - 1) a sound.logins k ∙ ap Some (next id z)

-- the account of a token that is known is found by its login
token_again : (s : Registry) (digest : Text) (o : Option Token) → Sound s → token_of s digest ≡ o → is_some o ≡ true → id_of_login s (login_of s (unwrap_or (option_map (λ t. t.account) o) 0)) ≡ option_map (λ t. t.account) o
token_again s digest None sound e h = cc
token_again s digest (Some t) sound e h =
    let good = sym (ap (holds (is_token s.accounts)) e) ∙ found_passes (λ x. bytes_eq x.digest digest) (is_token s.accounts) s.tokens sound.tokens (ap is_some e) in
    there (with_id s.accounts t.account) refl (and_parts _ _ (and_parts _ _ good).0).1
  where
    there : (o : Option Account) → with_id s.accounts t.account ≡ o → is_some o ≡ true → id_of_login s (login_of s t.account) ≡ Some t.account
    there None f k = cc
    there (Some a) f k = login_again s t.account a sound f

pub asker_found : (s : Registry) (digest : Text) → Sound s → not (is_some (token_of s digest)) ≡ false → id_of_login s (login_of s (account_of s digest)) ≡ Some (unwrap_or (caller s (Some digest)) 0)
asker_found s digest sound h = token_again s digest (token_of s digest) sound refl (not_false _ h) ∙ there (token_of s digest) (not_false _ h)
  where
    there : (o : Option Token) → is_some o ≡ true → option_map (λ t. t.account) o ≡ Some (unwrap_or (option_map (λ t. t.account) o) 0)
    there None e = cc
    there (Some t) e = refl

asker_again : (limits : Limits) (s : Registry) (digest : Text) (asked : Asked) → Sound s → not (is_some (token_of s digest)) ≡ false → unwrap_or (id_of_login s (login_of s (account_of s digest))) 0 ≡ unwrap_or (caller s (Some digest)) 0
asker_again limits s digest asked sound h = ap (λ o. unwrap_or o 0) (token_again s digest (token_of s digest) sound refl (not_false _ h))

alike_of : {r q : Registry} → r ≡ q → AreAlike r q
alike_of {r = r} e = subst (λ x. AreAlike r x) e (alike_self r)

-- ---- requests

opposed : (b : Bool) → b ≡ true → b ≡ false → ⊥
opposed true e f = cc
opposed false e f = cc

pub first_clear : (p : Rule → Bool) (b : Bool) (xs ys : List Rule) → Clear p (if b then rule.A2 ∷ xs else rule.A2 ∷ ys) → p rule.A2 ≡ false
first_clear p true xs ys c = c.0
first_clear p false xs ys c = c.0

-- the account that asks, by its login and by its token
abbrev by_login : Registry → Text → ℕ
by_login s digest = unwrap_or (id_of_login s (login_of s (account_of s digest))) 0

abbrev by_token : Registry → Text → ℕ
by_token s digest = unwrap_or (caller s (Some digest)) 0

module _ (limits : Limits) (s : Registry) (digest : Text) (sound : Sound s) where
  -- an account that asks for an owner's change asks for one or more logins
  pub some_logins : (logins : List Text) → list_all is_login logins ≡ true → ((logins ≡ []) → ⊥) → at_commas (with_commas logins) ≡ logins
  some_logins [] h some = absurd (some refl)
  some_logins (l ∷ ls) h some = cut_again l ls (all_so is_login (list_all uncut) login_uncut (l ∷ ls) h)

  pub request_again : (asked : Asked) (ws : List Text) → denied limits s (Some digest) asked ≡ None → request_words s asked ≡ Some ws → AreAlike (done s (by_login s digest) (asked_in ws)) (done s (by_token s digest) asked)
  unfolding done access_facts
  request_again (Publish p) ws ok h =
      let known = first_clear _ (is_some (first s p.name)) _ _ (not_denied limits s digest (Publish p) ok) in
      subst (λ w. AreAlike (done s (by_login s digest) (asked_in w)) (done s (by_token s digest) (Publish p))) (told_words false _ ws h)
      (subst (λ id. AreAlike (done s id (Publish (bare p.name p.version))) (done s (by_token s digest) (Publish p))) (sym (asker_again limits s digest (Publish p) sound known))
      (publish_alike s s (alike_self s) _ (bare p.name p.version) p refl))
  request_again (Yank n v) ws ok h =
      subst (λ w. AreAlike (done s (by_login s digest) (asked_in w)) (done s (by_token s digest) (Yank n v))) (told_words _ _ ws h) (alike_of (ap (λ c. record s { yanked = set.insert s.yanked (c, v) }) (spelled_canon s n)))
  request_again (Unyank n v) ws ok h =
      subst (λ w. AreAlike (done s (by_login s digest) (asked_in w)) (done s (by_token s digest) (Unyank n v))) (only_words _ _ ws h) (alike_of (ap (λ c. record s { yanked = set.remove s.yanked (c, v) }) (spelled_canon s n)))
  request_again (AddOwners n logins) ws ok h =
      let again = some_logins logins (added_logins limits s sound digest n logins ok) (λ e. opposed _ (ap (λ l. list_all (owns s n) (ids_of s l)) e) (some_unless _ _ ws h)) in
      subst (λ w. AreAlike (done s (by_login s digest) (asked_in w)) (done s (by_token s digest) (AddOwners n logins))) (told_words _ _ ws h)
      (alike_of (λ i. record s { owners = set.union s.owners (set.from_list (map (λ id. (spelled_canon s n i, id)) (ids_of s (again i)))) }))
  request_again (RemoveOwners n logins) ws ok h =
      let again = some_logins logins (removed_logins limits s sound digest n logins ok) (λ e. opposed _ (some_only_if _ _ ws h) (ap (λ l. list_any (owns s n) (ids_of s l)) e)) in
      subst (λ w. AreAlike (done s (by_login s digest) (asked_in w)) (done s (by_token s digest) (RemoveOwners n logins))) (only_words _ _ ws h)
      (alike_of (λ i. record s { owners = set.difference s.owners (set.from_list (map (λ id. (spelled_canon s n i, id)) (ids_of s (again i)))) }))
  request_again (Malformed r) ws ok h = cc
  request_again (Read what) ws ok h = cc
  request_again (Index p) ws ok h = cc
  request_again (Download n v) ws ok h = cc
  request_again (ListOwners n) ws ok h = cc

-- ---- commands

-- a name that was given, from its words
name_again : (login name : Text) → command_in (codes "user-add" ∷ login ∷ codes "--name" ∷ words_in name) ≡ UserAdd login (Some name)
name_again login name = by (words_in name) refl (length-slice_split (λ b. b == 32) name)
  where
    by : (ws : List Text) → words_in name ≡ ws → length (words_in name) ≡ count_by (λ b. b == 32) name + 1 → command_in (codes "user-add" ∷ login ∷ codes "--name" ∷ words_in name) ≡ UserAdd login (Some name)
    by [] e l = absurd (let z = ap length e in omega (arith, l))
    by (w ∷ ws) e l = ap (λ v. command_in (codes "user-add" ∷ login ∷ codes "--name" ∷ v)) e ∙ ap (λ t. UserAdd login (Some t)) (ap (join_with_byte 32) (sym e) ∙ join_with_byte-slice_split 32 name)

given_again : (ps : List Text) → list_all is_pattern ps ≡ true → at_commas (with_commas (patterns_given ps)) ≡ patterns_given ps
given_again [] h = refl
given_again (p ∷ ps) h = cut_again p ps (all_so is_pattern (list_all uncut) pattern_uncut (p ∷ ps) h)

given_twice : (ps : List Text) → patterns_given (patterns_given ps) ≡ patterns_given ps
given_twice [] = refl
given_twice (p ∷ ps) = refl

words_again : (ws : List Text) → (length ws == 0 || not (list_all is_endpoint ws)) ≡ false → at_commas (with_commas ws) ≡ ws
words_again [] h = cc
words_again (w ∷ ws) h = cut_again w ws (all_so is_endpoint (list_all uncut) endpoint_uncut (w ∷ ws) (not_false _ (neither _ _ h).1))

module _ (limits : Limits) (s : Registry) (sound : Sound s) (ids : HasIds s) where
  pub command_again : (c : Command) (ws : List Text) → refused limits s c ≡ None → command_words s c ≡ Some ws → AreAlike (commanded s (command_in ws)) (commanded s c)
  unfolding commanded
  command_again (UserAdd login None) ws ok h = subst (λ w. AreAlike (commanded s (command_in w)) (commanded s (UserAdd login None))) (told_words false _ ws h) (alike_self _)
  command_again (UserAdd login (Some name)) ws ok h =
      subst (λ w. AreAlike (commanded s (command_in w)) (commanded s (UserAdd login (Some name)))) (told_words false _ ws h) (alike_of (ap (commanded s) (name_again login name)))
  command_again (UserDisable login) ws ok h = subst (λ w. AreAlike (commanded s (command_in w)) (commanded s (UserDisable login))) (only_words _ _ ws h) (alike_self _)
  command_again (UserEnable login) ws ok h = subst (λ w. AreAlike (commanded s (command_in w)) (commanded s (UserEnable login))) (told_words _ _ ws h) (alike_self _)
  command_again (TokenAdd login words patterns digest) ws ok h =
      let g = not_refused limits s (TokenAdd login words patterns digest) ok in
      subst (λ w. AreAlike (commanded s (command_in w)) (commanded s (TokenAdd login words patterns digest))) (told_words false _ ws h)
      (subst (λ c. AreAlike (commanded s c) (commanded s (TokenAdd login words patterns digest)))
      (λ i. TokenAdd login (sym (words_again words g.1.0) i) (sym (given_again patterns (not_false _ g.1.1.0)) i) [])
      (subst (λ r. AreAlike r (commanded s (TokenAdd login words patterns digest)))
      (ap (λ ps. with_token [] (unwrap_or (id_of_login s login) 0) (endpoints_named words) ps s) (sym (given_twice patterns)))
      (token_alike s s (alike_self s) login words patterns [] digest)))
  command_again (TokenRevoke id) ws ok h =
      subst (λ w. AreAlike (commanded s (command_in w)) (commanded s (TokenRevoke id))) (only_words _ _ ws h) (alike_of (ap (λ k. commanded s (TokenRevoke k)) (number id (some_only_if _ _ ws h))))
    where
      number : (id : ℕ) → holds (λ t. t.live) (with_id s.tokens id) ≡ true → digits_value 10 (decimal id) ≡ id
      number id live = let k = holds_within (λ t. t.live) s.tokens id live in digits_value-decimal (numerals_by_value _ tells_all_ascii_digits) id (omega (arith, ids))
  command_again (Reserve n) ws ok h = subst (λ w. AreAlike (commanded s (command_in w)) (commanded s (Reserve n))) (told_words _ _ ws h) (alike_self _)
  command_again (Unreserve n) ws ok h = subst (λ w. AreAlike (commanded s (command_in w)) (commanded s (Unreserve n))) (only_words _ _ ws h) (alike_self _)
  command_again (OwnerAdd n login) ws ok h =
      subst (λ w. AreAlike (commanded s (command_in w)) (commanded s (OwnerAdd n login))) (told_words _ _ ws h)
      (alike_of (λ i. record s { owners = set.union s.owners (set.from_list (map (λ id. (spelled_canon s n i, id)) (ids_of s (login ∷ [])))) }))
  command_again (CrateRestrict n) ws ok h =
      subst (λ w. AreAlike (commanded s (command_in w)) (commanded s (CrateRestrict n))) (told_words _ _ ws h) (alike_of (ap (λ c. record s { restricted = set.insert s.restricted c }) (spelled_canon s n)))
  command_again (CrateOpen n) ws ok h =
      subst (λ w. AreAlike (commanded s (command_in w)) (commanded s (CrateOpen n))) (only_words _ _ ws h) (alike_of (ap (λ c. record s { restricted = set.remove s.restricted c }) (spelled_canon s n)))
  command_again (ReaderAdd n login) ws ok h =
      subst (λ w. AreAlike (commanded s (command_in w)) (commanded s (ReaderAdd n login))) (told_words _ _ ws h) (alike_of (ap (λ c. record s { readers = set.insert s.readers (c, unwrap_or (id_of_login s login) 0) }) (spelled_canon s n)))
  command_again (ReaderRemove n login) ws ok h =
      subst (λ w. AreAlike (commanded s (command_in w)) (commanded s (ReaderRemove n login))) (only_words _ _ ws h) (alike_of (ap (λ c. record s { readers = set.remove s.readers (c, unwrap_or (id_of_login s login) 0) }) (spelled_canon s n)))
  command_again (Access n) ws ok h = cc
  command_again Users ws ok h = cc
  command_again Tokens ws ok h = cc
  command_again Crates ws ok h = cc

-- ---- events

-- what the words of an event tell, done again
pub event_again : (limits : Limits) (s : Registry) (e : Event) (ws : List Text) → Sound s → HasIds s → event_words limits s e ≡ Some ws → AreAlike (replayed s (with_asker s e ws)) (outcome limits s e).1
event_again limits s (Ask None asked) ws sound ids h = absurd (nobody limits s asked ws h)
event_again limits s (Ask (Some digest) asked) ws sound ids h =
    let k = unrefused (denied limits s (Some digest) asked) (request_words s asked) ws h in
    subst (λ b. AreAlike (cond b (commanded s (command_in ws)) (done s (unwrap_or (id_of_login s (login_of s (account_of s digest))) 0) (asked_in ws))) (outcome limits s (Ask (Some digest) asked)).1) (sym (number_is_no_dash (id_of_token s digest) (token_number s sound ids digest)))
    (subst (λ o. AreAlike (done s (unwrap_or (id_of_login s (login_of s (account_of s digest))) 0) (asked_in ws)) (unless_denied s o (served s (caller s (Some digest)) asked, done s (unwrap_or (caller s (Some digest)) 0) asked)).1) (sym k.0)
    (request_again limits s digest sound asked ws k.0 k.1))
event_again limits s (Order c) ws sound ids h =
    let k = unrefused (refused limits s c) (command_words s c) ws h in
    subst (λ o. AreAlike (commanded s (command_in ws)) (unless_refused s o (replied s c, commanded s c)).1) (sym k.0) (command_again limits s sound ids c ws k.0 k.1)
