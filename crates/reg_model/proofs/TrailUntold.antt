-- What has no line changes nothing.
use Rattle.reg_model.proofs.Words.{◌≡◌, ℕ, zero, suc, ◌-◌, ◌==◌, List, [], ◌∷◌, Bool, true, false, cond, Option, Some, None, refl, sym, ◌∙◌}
use Rattle.reg_model.proofs.Words.{ap, ◌&&◌, ◌||◌, not, is_none, slice_get, unwrap_or, option_map, list_all, list_any, eq_by_cmp, Ordering}
use Rattle.reg_model.proofs.Words.{IsTotalOrder, nat_list_cmp_total, FinSet, IsAntisymmetric, contains, and_parts, list_all-map, Limits}
use Rattle.reg_model.proofs.Words.{canon, Rule, AdminRefusal, Text, Account, Token, Registry, change_at, change_place, holds, id_of_login}
use Rattle.reg_model.proofs.Words.{ids_of, is_enabled, is_known, with_id, is_reserved_always, owns, caller, enable, owners_of, replied}
use Rattle.reg_model.proofs.Words.{served, Asked, Command, Event, Malformed, Read, Index, Download, ListOwners, Publish, Yank, Unyank}
use Rattle.reg_model.proofs.Words.{AddOwners, RemoveOwners, UserAdd, UserDisable, UserEnable, TokenAdd, TokenRevoke, Reserve, Unreserve}
use Rattle.reg_model.proofs.Words.{OwnerAdd, Access, Users, Tokens, Crates, CrateRestrict, CrateOpen, ReaderAdd, ReaderRemove, Ask, Order}
use Rattle.reg_model.proofs.Words.{outcome, unless_denied, unless_refused, command_words, only_if, request_words, unless, unless_some}
use Rattle.std.specs.Prelude.{map}
use Rattle.std.specs.FinSet as set
use Rattle.reg_model.specs.Crates.{reads}
use Rattle.reg_model.specs.Effects.{commanded, done}
use Rattle.reg_model.specs.Refusals.{denied, refused}
use Rattle.reg_model.proofs.Cleared.{not_refused}
use Rattle.reg_model.proofs.Keys.{insert_again, mark_apart, mark_total, owner_apart, owner_total, same_key, text_apart}
use Rattle.reg_model.specs.Trail.{has_account, line}

-- ---- what is told under a condition

pub told_unless : (b : Bool) (words : List Text) → unless b words ≡ None → b ≡ true
told_unless true words e = refl
told_unless false words e = cc

pub told_only_if : (b : Bool) (words : List Text) → only_if b words ≡ None → b ≡ false
told_only_if true words e = cc
told_only_if false words e = refl

pub neither : (a b : Bool) → (a || b) ≡ false → (a ≡ false) × (b ≡ false)
neither true b e = cc
neither false b e = (refl, e)

-- ---- sets

module _ {K : Type 0} {R : K → K → Ordering} (o : IsTotalOrder R) (apart : IsAntisymmetric R) (s : FinSet R) where
  here : (q k : K) (b : Bool) → contains s k ≡ b → eq_by_cmp R q k ≡ true → contains s q ≡ b
  here q k b there tied = ap (contains s) (same_key apart q k tied) ∙ there

  -- what is not there is not taken away
  pub remove_absent : (k : K) → contains s k ≡ false → set.remove s k ≡ s
  remove_absent k absent = set.same_set o apart _ _ (λ q. set.contains-remove o s k q ∙ stays q (eq_by_cmp R q k) refl)
    where
      stays : (q : K) (b : Bool) → eq_by_cmp R q k ≡ b → (not b && contains s q) ≡ contains s q
      stays q true tied = sym (here q k false absent tied)
      stays q false tied = refl

  all_there : (q : K) (ks : List K) → list_all (contains s) ks ≡ true → (contains s q || list_any (eq_by_cmp R q) ks) ≡ contains s q
  all_there q [] h = or_false (contains s q)
    where
      or_false : (b : Bool) → (b || false) ≡ b
      or_false true = refl
      or_false false = refl
  all_there q (k ∷ ks) h = step (all_there q ks (and_parts _ _ h).1) (eq_by_cmp R q k) refl
    where
      step : (contains s q || list_any (eq_by_cmp R q) ks) ≡ contains s q → (b : Bool) → eq_by_cmp R q k ≡ b → (contains s q || (b || list_any (eq_by_cmp R q) ks)) ≡ contains s q
      step rest true tied = ap (λ c. c || true) (here q k true (and_parts _ _ h).0 tied) ∙ sym (here q k true (and_parts _ _ h).0 tied)
      step rest false tied = rest

  -- what is there already adds nothing
  pub union_there : (ks : List K) → list_all (contains s) ks ≡ true → set.union s (set.from_list ks) ≡ s
  union_there ks h = set.same_set o apart _ _ (λ q. set.contains-union o s (set.from_list ks) q ∙ ap (λ b. contains s q || b) (set.contains-from_list o ks q) ∙ all_there q ks h)

  none_there : (q : K) (ks : List K) → list_any (contains s) ks ≡ false → (contains s q && not (list_any (eq_by_cmp R q) ks)) ≡ contains s q
  none_there q [] h = and_true (contains s q)
    where
      and_true : (b : Bool) → (b && true) ≡ b
      and_true true = refl
      and_true false = refl
  none_there q (k ∷ ks) h = step (none_there q ks (neither _ _ h).1) (eq_by_cmp R q k) refl
    where
      step : (contains s q && not (list_any (eq_by_cmp R q) ks)) ≡ contains s q → (b : Bool) → eq_by_cmp R q k ≡ b → (contains s q && not (b || list_any (eq_by_cmp R q) ks)) ≡ contains s q
      step rest true tied = ap (λ c. c && false) (here q k false (neither _ _ h).0 tied) ∙ sym (here q k false (neither _ _ h).0 tied)
      step rest false tied = rest

  pub difference_absent : (ks : List K) → list_any (contains s) ks ≡ false → set.difference s (set.from_list ks) ≡ s
  difference_absent ks h = set.same_set o apart _ _ (λ q. set.contains-difference o s (set.from_list ks) q ∙ ap (λ b. contains s q && not b) (set.contains-from_list o ks q) ∙ none_there q ks h)

-- ---- lists

module _ {X : Type 0} (f : X → X) where
  place_unchanged : (i : ℕ) (xs : List X) → ((x : X) → slice_get xs i ≡ Some x → f x ≡ x) → change_place f i xs ≡ xs
  place_unchanged i [] h = refl
  place_unchanged zero (x ∷ xs) h = ap (λ y. y ∷ xs) (h x refl)
  place_unchanged (suc i) (x ∷ xs) h = ap (λ ys. x ∷ ys) (place_unchanged i xs h)

  -- an element that the change leaves as it is
  pub id_unchanged : (id : ℕ) (xs : List X) → ((x : X) → with_id xs id ≡ Some x → f x ≡ x) → change_at f id xs ≡ xs
  id_unchanged id xs h = elim (id == 0) as (λ b. ((x : X) → cond b None (slice_get xs (id - 1)) ≡ Some x → f x ≡ x) → cond b xs (change_place f (id - 1) xs) ≡ xs) [ true ↦ λ k. refl | false ↦ λ k. place_unchanged (id - 1) xs k ] h

-- ---- requests

owned_again : (s : Registry) (n : Text) (ids : List ℕ) → list_all (owns s n) ids ≡ true → set.union s.owners (owners_of n ids) ≡ s.owners
owned_again s n ids h = union_there owner_total owner_apart s.owners (map (λ id. (canon n, id)) ids) (list_all-map (contains s.owners) (λ id. (canon n, id)) ids ∙ h)

pub list_any-map : {X Y : Type 0} (p : Y → Bool) (f : X → Y) (xs : List X) → list_any p (map f xs) ≡ list_any (λ x. p (f x)) xs
list_any-map p f [] = refl
list_any-map p f (x ∷ xs) = ap (λ b. p (f x) || b) (list_any-map p f xs)

never_owned : (s : Registry) (n : Text) (ids : List ℕ) → list_any (owns s n) ids ≡ false → set.difference s.owners (owners_of n ids) ≡ s.owners
never_owned s n ids h = difference_absent owner_total owner_apart s.owners (map (λ id. (canon n, id)) ids) (list_any-map (contains s.owners) (λ id. (canon n, id)) ids ∙ h)

request_untold : (s : Registry) (id : ℕ) (asked : Asked) → request_words s asked ≡ None → done s id asked ≡ s
unfolding done
request_untold s id (Publish p) h = cc
request_untold s id (Yank n v) h = ap (λ y. record s { yanked = y }) (insert_again mark_total mark_apart s.yanked (canon n, v) (told_unless _ _ h))
request_untold s id (Unyank n v) h = ap (λ y. record s { yanked = y }) (remove_absent mark_total mark_apart s.yanked (canon n, v) (told_only_if _ _ h))
request_untold s id (AddOwners n logins) h = ap (λ o. record s { owners = o }) (owned_again s n (ids_of s logins) (told_unless _ _ h))
request_untold s id (RemoveOwners n logins) h = ap (λ o. record s { owners = o }) (never_owned s n (ids_of s logins) (told_only_if _ _ h))
request_untold s id (Malformed r) h = refl
request_untold s id (Read what) h = refl
request_untold s id (Index p) h = refl
request_untold s id (Download n v) h = refl
request_untold s id (ListOwners n) h = refl

-- ---- commands

enabled_again : (s : Registry) (b : Bool) (login : Text) → is_known s login ≡ b → enable b (id_of_login s login) s.accounts ≡ s.accounts
enabled_again s b login h = by (id_of_login s login) h
  where
    same : (a : Account) (o : Option Account) → o ≡ Some a → holds (λ x. x.enabled) o ≡ b → record a { enabled = b } ≡ a
    same a o e k = let l : a.enabled ≡ b = ap (holds (λ x. x.enabled)) (sym e) ∙ k in ap (λ c. record a { enabled = c }) (sym l)

    by : (o : Option ℕ) → holds (is_enabled s) o ≡ b → enable b o s.accounts ≡ s.accounts
    by None k = refl
    by (Some id) k = id_unchanged (λ (a : Account). record a { enabled = b }) id s.accounts (λ a e. same a _ e k)

revoked_again : (s : Registry) (id : ℕ) → holds (λ (t : Token). t.live) (with_id s.tokens id) ≡ false → change_at (λ (t : Token). record t { live = false }) id s.tokens ≡ s.tokens
revoked_again s id h = id_unchanged (λ (t : Token). record t { live = false }) id s.tokens (λ t e. same t _ e h)
  where
    same : (t : Token) (o : Option Token) → o ≡ Some t → holds (λ x. x.live) o ≡ false → record t { live = false } ≡ t
    same t o e k = let l : t.live ≡ false = ap (holds (λ x. x.live)) (sym e) ∙ k in ap (λ c. record t { live = c }) (sym l)

reserved_again : (s : Registry) (c : Text) (b : Bool) → (b || contains s.reserved c) ≡ true → cond b s (record s { reserved = set.insert s.reserved c }) ≡ s
reserved_again s c true h = refl
reserved_again s c false h = ap (λ r. record s { reserved = r }) (insert_again nat_list_cmp_total text_apart s.reserved c h)

pub reader_is : (s : Registry) (n login : Text) (b : Bool) (o : Option ℕ) → id_of_login s login ≡ o → is_none o ≡ false → has_account reads s n login ≡ b → contains s.readers (canon n, unwrap_or o 0) ≡ b
reader_is s n login b None e g h = cc
reader_is s n login b (Some id) e g h = sym (alone (reads s n id)) ∙ (rw e at h)
  where
    alone : (c : Bool) → (c && true) ≡ c
    alone true = refl
    alone false = refl

command_untold : (limits : Limits) (s : Registry) (c : Command) → refused limits s c ≡ None → command_words s c ≡ None → commanded s c ≡ s
unfolding commanded
command_untold limits s (UserAdd login name) ok h = cc
command_untold limits s (UserDisable login) ok h = ap (λ a. record s { accounts = a }) (enabled_again s false login (told_only_if _ _ h))
command_untold limits s (UserEnable login) ok h = ap (λ a. record s { accounts = a }) (enabled_again s true login (told_unless _ _ h))
command_untold limits s (TokenAdd login words patterns digest) ok h = cc
command_untold limits s (TokenRevoke id) ok h = ap (λ t. record s { tokens = t }) (revoked_again s id (told_only_if _ _ h))
command_untold limits s (Reserve n) ok h = reserved_again s (canon n) (is_reserved_always (canon n)) (told_unless _ _ h)
command_untold limits s (Unreserve n) ok h = ap (λ r. record s { reserved = r }) (remove_absent nat_list_cmp_total text_apart s.reserved (canon n) (told_only_if _ _ h))
command_untold limits s (OwnerAdd n login) ok h = ap (λ o. record s { owners = o }) (owned_again s n (ids_of s (login ∷ [])) (told_unless _ _ h))
command_untold limits s (CrateRestrict n) ok h = ap (λ r. record s { restricted = r }) (insert_again nat_list_cmp_total text_apart s.restricted (canon n) (told_unless _ _ h))
command_untold limits s (CrateOpen n) ok h = ap (λ r. record s { restricted = r }) (remove_absent nat_list_cmp_total text_apart s.restricted (canon n) (told_only_if _ _ h))
command_untold limits s (ReaderAdd n login) ok h =
    ap (λ r. record s { readers = r }) (insert_again owner_total owner_apart s.readers _ (reader_is s n login true (id_of_login s login) refl (not_refused limits s (ReaderAdd n login) ok).1.0 (told_unless _ _ h)))
command_untold limits s (ReaderRemove n login) ok h =
    ap (λ r. record s { readers = r }) (remove_absent owner_total owner_apart s.readers _ (reader_is s n login false (id_of_login s login) refl (not_refused limits s (ReaderRemove n login) ok).1.0 (told_only_if _ _ h)))
command_untold limits s (Access n) ok h = refl
command_untold limits s Users ok h = refl
command_untold limits s Tokens ok h = refl
command_untold limits s Crates ok h = refl

-- ---- events

no_words : (f : List Text → Text) (w : Option (List Text)) → option_map f w ≡ None → w ≡ None
no_words f None e = refl
no_words f (Some w) e = cc

pub untold_keep : (limits : Limits) (s : Registry) (e : Event) → line limits s e ≡ None → (outcome limits s e).1 ≡ s
unfolding line
untold_keep limits s (Ask digest asked) h = by (denied limits s digest asked) (no_words _ _ h)
  where
    by : (o : Option Rule) → unless_some o (request_words s asked) ≡ None → (unless_denied s o (served s (caller s digest) asked, done s (unwrap_or (caller s digest) 0) asked)).1 ≡ s
    by (Some r) k = refl
    by None k = request_untold s _ asked k
untold_keep limits s (Order c) h = by (refused limits s c) refl (no_words _ _ h)
  where
    by : (o : Option AdminRefusal) → refused limits s c ≡ o → unless_some o (command_words s c) ≡ None → (unless_refused s o (replied s c, commanded s c)).1 ≡ s
    by (Some g) e k = refl
    by None e k = command_untold limits s c e k
