-- What has a line changes something.
use Rattle.reg_model.proofs.Words.{◌≡◌, ◌≢◌, ℕ, zero, suc, ◌+◌, ◌-◌, ◌==◌, List, [], ◌∷◌, ◌++◌, Bool, true, false, cond, Option, Some, None}
use Rattle.reg_model.proofs.Words.{refl, sym, ◌∙◌, ap, arith, ◌&&◌, ◌||◌, not, is_none, is_some, length, slice_get, unwrap_or, option_map}
use Rattle.reg_model.proofs.Words.{list_all, list_any, eq_by_cmp, Ordering, IsTotalOrder, nat_list_cmp_total, FinSet, contains, bytes_eq}
use Rattle.reg_model.proofs.Words.{and_from, list_all-map, length-append, Limits, canon, Rule, AdminRefusal, Text, Account, Token, Registry}
use Rattle.reg_model.proofs.Words.{change_at, change_place, holds, id_of_login, ids_of, is_enabled, with_id, is_reserved_always, owns}
use Rattle.reg_model.proofs.Words.{caller, enable, owners_of, replied, served, Asked, Command, Event, Malformed, Read, Index, Download}
use Rattle.reg_model.proofs.Words.{ListOwners, Publish, Yank, Unyank, AddOwners, RemoveOwners, UserAdd, UserDisable, UserEnable, TokenAdd}
use Rattle.reg_model.proofs.Words.{TokenRevoke, Reserve, Unreserve, OwnerAdd, Access, Users, Tokens, Crates, CrateRestrict, CrateOpen}
use Rattle.reg_model.proofs.Words.{ReaderAdd, ReaderRemove, Ask, Order, outcome, unless_denied, unless_refused, command_words, only_if}
use Rattle.reg_model.proofs.Words.{request_words, unless, unless_some}
use Rattle.std.specs.Prelude.{map}
use Rattle.std.specs.FinSet as set
use Rattle.reg_model.specs.Effects.{commanded, done}
use Rattle.reg_model.specs.Refusals.{denied, refused}
use Rattle.reg_model.proofs.Cleared.{not_refused}
use Rattle.reg_model.proofs.Keys.{mark_total, owner_total, ties_itself}
use Rattle.reg_model.specs.Trail.{line}
use Rattle.reg_model.proofs.Places.{found_there}
use Rattle.reg_model.proofs.TrailUntold.{list_any-map, reader_is}

-- ---- what is told under a condition

pub some_unless : (b : Bool) (words ws : List Text) → unless b words ≡ Some ws → b ≡ false
some_unless true words ws e = cc
some_unless false words ws e = refl

pub some_only_if : (b : Bool) (words ws : List Text) → only_if b words ≡ Some ws → b ≡ true
some_only_if true words ws e = refl
some_only_if false words ws e = cc

two : (b : Bool) → b ≡ true → b ≡ false → ⊥
two true e f = cc
two false e f = cc

-- ---- lists

longer : {X : Type 0} (xs : List X) (x : X) → xs ++ x ∷ [] ≢ xs
longer xs x e = omega (arith, length-append xs (x ∷ []), ap length e)

module _ {X : Type 0} (f : X → X) where
  place_changed : (i : ℕ) (xs : List X) → slice_get (change_place f i xs) i ≡ option_map f (slice_get xs i)
  place_changed i [] = refl
  place_changed zero (x ∷ xs) = refl
  place_changed (suc i) (x ∷ xs) = place_changed i xs

  pub id_changed : (id : ℕ) (xs : List X) → with_id (change_at f id xs) id ≡ option_map f (with_id xs id)
  id_changed id xs = by (id == 0)
    where
      by : (b : Bool) → cond b None (slice_get (cond b xs (change_place f (id - 1) xs)) (id - 1)) ≡ option_map f (cond b None (slice_get xs (id - 1)))
      by true = refl
      by false = place_changed (id - 1) xs

-- ---- sets

module _ {K : Type 0} {R : K → K → Ordering} (o : IsTotalOrder R) (s : FinSet R) where
  inserted : (k : K) → contains (set.insert s k) k ≡ true
  inserted k = set.contains-insert o s k k ∙ ap (λ b. b || contains s k) (ties_itself o k)

  pub insert_changes : (k : K) → contains s k ≡ false → set.insert s k ≢ s
  insert_changes k absent e = two _ (sym (ap (λ t. contains t k) e) ∙ inserted k) absent

  pub remove_changes : (k : K) → contains s k ≡ true → set.remove s k ≢ s
  remove_changes k there e = two _ there (sym (ap (λ t. contains t k) e) ∙ set.contains-remove o s k k ∙ ap (λ b. not b && contains s k) (ties_itself o k))

  in_keys : (k : K) (ks : List K) → list_any (eq_by_cmp R k) (k ∷ ks) ≡ true
  in_keys k ks = ap (λ b. b || list_any (eq_by_cmp R k) ks) (ties_itself o k)

  or_true : (b : Bool) → (b || true) ≡ true
  or_true true = refl
  or_true false = refl

  all_in : (P : K → Bool) (ks : List K) → ((k : K) → list_any (eq_by_cmp R k) ks ≡ true → P k ≡ true) → list_all P ks ≡ true
  all_in P [] each = refl
  all_in P (k ∷ ks) each = and_from _ _ (each k (in_keys k ks)) (all_in P ks (λ q h. each q (ap (λ b. eq_by_cmp R q k || b) h ∙ or_true _)))

  none_in : (P : K → Bool) (ks : List K) → ((k : K) → list_any (eq_by_cmp R k) ks ≡ true → P k ≡ false) → list_any P ks ≡ false
  none_in P [] each = refl
  none_in P (k ∷ ks) each = ap (λ b. b || list_any P ks) (each k (in_keys k ks)) ∙ none_in P ks (λ q h. each q (ap (λ b. eq_by_cmp R q k || b) h ∙ or_true _))

  union_all : (ks : List K) → set.union s (set.from_list ks) ≡ s → list_all (contains s) ks ≡ true
  union_all ks e = all_in (contains s) ks (λ k h. sym (ap (λ t. contains t k) e) ∙ set.contains-union o s (set.from_list ks) k ∙ ap (λ b. contains s k || b) (set.contains-from_list o ks k ∙ h) ∙ or_true _)

  difference_none : (ks : List K) → set.difference s (set.from_list ks) ≡ s → list_any (contains s) ks ≡ false
  difference_none ks e = none_in (contains s) ks (λ k h. sym (ap (λ t. contains t k) e) ∙ set.contains-difference o s (set.from_list ks) k ∙ ap (λ b. contains s k && not b) (set.contains-from_list o ks k ∙ h) ∙ and_false (contains s k))
    where
      and_false : (b : Bool) → (b && false) ≡ false
      and_false true = refl
      and_false false = refl

-- ---- requests

union_changes : (s : Registry) (n : Text) (ids : List ℕ) → list_all (owns s n) ids ≡ false → set.union s.owners (owners_of n ids) ≢ s.owners
union_changes s n ids h e = two _ (sym (list_all-map (contains s.owners) (λ id. (canon n, id)) ids) ∙ union_all owner_total s.owners (map (λ id. (canon n, id)) ids) e) h

difference_changes : (s : Registry) (n : Text) (ids : List ℕ) → list_any (owns s n) ids ≡ true → set.difference s.owners (owners_of n ids) ≢ s.owners
difference_changes s n ids h e = two _ h (sym (list_any-map (contains s.owners) (λ id. (canon n, id)) ids) ∙ difference_none owner_total s.owners (map (λ id. (canon n, id)) ids) e)

request_told : (s : Registry) (id : ℕ) (asked : Asked) (ws : List Text) → request_words s asked ≡ Some ws → done s id asked ≢ s
unfolding done
request_told s id (Publish p) ws h e = longer s.publications p (ap (λ r. r.publications) e)
request_told s id (Yank n v) ws h e = insert_changes mark_total s.yanked (canon n, v) (some_unless _ _ _ h) (ap (λ r. r.yanked) e)
request_told s id (Unyank n v) ws h e = remove_changes mark_total s.yanked (canon n, v) (some_only_if _ _ _ h) (ap (λ r. r.yanked) e)
request_told s id (AddOwners n logins) ws h e = union_changes s n (ids_of s logins) (some_unless _ _ _ h) (ap (λ r. r.owners) e)
request_told s id (RemoveOwners n logins) ws h e = difference_changes s n (ids_of s logins) (some_only_if _ _ _ h) (ap (λ r. r.owners) e)
request_told s id (Malformed r) ws h e = cc
request_told s id (Read what) ws h e = cc
request_told s id (Index p) ws h e = cc
request_told s id (Download n v) ws h e = cc
request_told s id (ListOwners n) ws h e = cc

-- ---- commands

-- an account that is there has the state that it is given
enabled_so : (accounts : List Account) (b : Bool) (id : ℕ) → is_some (with_id accounts id) ≡ true → enable b (Some id) accounts ≡ accounts → holds (λ a. a.enabled) (with_id accounts id) ≡ b
enabled_so accounts b id there e = ap (λ l. holds (λ a. a.enabled) (with_id l id)) (sym e) ∙ ap (holds (λ a. a.enabled)) (id_changed (λ (a : Account). record a { enabled = b }) id accounts) ∙ by (with_id accounts id) there
  where
    by : (o : Option Account) → is_some o ≡ true → holds (λ a. a.enabled) (option_map (λ (a : Account). record a { enabled = b }) o) ≡ b
    by None h = cc
    by (Some a) h = refl

account_changes : (s : Registry) (b : Bool) (login : Text) (o : Option ℕ) → id_of_login s login ≡ o → is_none o ≡ false → holds (is_enabled s) o ≡ not b → enable b o s.accounts ≢ s.accounts
account_changes s b login None f g h e = cc
account_changes s b login (Some id) f g h e = apart b (sym h ∙ enabled_so s.accounts b id (found_there (λ a. bytes_eq a.login login) s.accounts id f) e)
  where
    apart : (b : Bool) → not b ≢ b
    apart true k = cc
    apart false k = cc

-- an account that is known is there
known_there : (s : Registry) (o : Option ℕ) → holds (is_enabled s) o ≡ true → is_none o ≡ false
known_there s None h = cc
known_there s (Some id) h = refl

revoke_changes : (tokens : List Token) (id : ℕ) → holds (λ t. t.live) (with_id tokens id) ≡ true → change_at (λ (t : Token). record t { live = false }) id tokens ≢ tokens
revoke_changes tokens id h e = two _ h (ap (λ l. holds (λ t. t.live) (with_id l id)) (sym e) ∙ ap (holds (λ t. t.live)) (id_changed (λ (t : Token). record t { live = false }) id tokens) ∙ by (with_id tokens id))
  where
    by : (o : Option Token) → holds (λ t. t.live) (option_map (λ (t : Token). record t { live = false }) o) ≡ false
    by None = refl
    by (Some t) = refl

reserve_changes : (s : Registry) (c : Text) (b : Bool) → (b || contains s.reserved c) ≡ false → cond b s (record s { reserved = set.insert s.reserved c }) ≢ s
reserve_changes s c true h e = cc
reserve_changes s c false h e = insert_changes nat_list_cmp_total s.reserved c h (ap (λ r. r.reserved) e)

command_told : (limits : Limits) (s : Registry) (c : Command) (ws : List Text) → refused limits s c ≡ None → command_words s c ≡ Some ws → commanded s c ≢ s
unfolding commanded
command_told limits s (UserAdd login name) ws ok h e = longer s.accounts _ (ap (λ r. r.accounts) e)
command_told limits s (UserDisable login) ws ok h e =
    let known = some_only_if _ _ _ h in
    account_changes s false login (id_of_login s login) refl (known_there s (id_of_login s login) known) known (ap (λ r. r.accounts) e)
command_told limits s (UserEnable login) ws ok h e =
    account_changes s true login (id_of_login s login) refl (not_refused limits s (UserEnable login) ok).0 (some_unless _ _ _ h) (ap (λ r. r.accounts) e)
command_told limits s (TokenAdd login words patterns digest) ws ok h e = longer s.tokens _ (ap (λ r. r.tokens) e)
command_told limits s (TokenRevoke id) ws ok h e = revoke_changes s.tokens id (some_only_if _ _ _ h) (ap (λ r. r.tokens) e)
command_told limits s (Reserve n) ws ok h e = reserve_changes s (canon n) (is_reserved_always (canon n)) (some_unless _ _ _ h) e
command_told limits s (Unreserve n) ws ok h e = remove_changes nat_list_cmp_total s.reserved (canon n) (some_only_if _ _ _ h) (ap (λ r. r.reserved) e)
command_told limits s (OwnerAdd n login) ws ok h e = union_changes s n (ids_of s (login ∷ [])) (some_unless _ _ _ h) (ap (λ r. r.owners) e)
command_told limits s (CrateRestrict n) ws ok h e = insert_changes nat_list_cmp_total s.restricted (canon n) (some_unless _ _ _ h) (ap (λ r. r.restricted) e)
command_told limits s (CrateOpen n) ws ok h e = remove_changes nat_list_cmp_total s.restricted (canon n) (some_only_if _ _ _ h) (ap (λ r. r.restricted) e)
command_told limits s (ReaderAdd n login) ws ok h e =
    insert_changes owner_total s.readers _ (reader_is s n login false (id_of_login s login) refl (not_refused limits s (ReaderAdd n login) ok).1.0 (some_unless _ _ _ h)) (ap (λ r. r.readers) e)
command_told limits s (ReaderRemove n login) ws ok h e =
    remove_changes owner_total s.readers _ (reader_is s n login true (id_of_login s login) refl (not_refused limits s (ReaderRemove n login) ok).1.0 (some_only_if _ _ _ h)) (ap (λ r. r.readers) e)
command_told limits s (Access n) ws ok h e = cc
command_told limits s Users ws ok h e = cc
command_told limits s Tokens ws ok h e = cc
command_told limits s Crates ws ok h e = cc

-- ---- events

some_words : (f : List Text → Text) (w : Option (List Text)) (l : Text) → option_map f w ≡ Some l → (ws : List Text) × (w ≡ Some ws)
some_words f None l e = cc
some_words f (Some ws) l e = (ws, refl)

pub told_change : (limits : Limits) (s : Registry) (e : Event) (l : Text) → line limits s e ≡ Some l → (outcome limits s e).1 ≢ s
unfolding line
told_change limits s (Ask digest asked) l h = let w = some_words _ _ l h in by (denied limits s digest asked) w.0 w.1
  where
    by : (o : Option Rule) (ws : List Text) → unless_some o (request_words s asked) ≡ Some ws → (unless_denied s o (served s (caller s digest) asked, done s (unwrap_or (caller s digest) 0) asked)).1 ≢ s
    by (Some r) ws k = cc
    by None ws k = request_told s _ asked ws k
told_change limits s (Order c) l h = let w = some_words _ _ l h in by (refused limits s c) refl w.0 w.1
  where
    by : (o : Option AdminRefusal) → refused limits s c ≡ o → (ws : List Text) → unless_some o (command_words s c) ≡ Some ws → (unless_refused s o (replied s c, commanded s c)).1 ≢ s
    by (Some g) e ws k = cc
    by None e ws k = command_told limits s c ws e k
