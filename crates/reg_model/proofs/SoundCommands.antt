-- Each command that is not refused keeps a state sound.
use Rattle.reg_model.proofs.Words.{◌≡◌, ℕ, ◌+◌, ◌==◌, List, [], ◌∷◌, ◌++◌, Bool, true, false, cond, Option, Some, None, refl, sym, ◌∙◌, ap}
use Rattle.reg_model.proofs.Words.{arith, not, ◌||◌, ◌&&◌, nat_lt, is_some, length, codes, unwrap_or, list_any, list_all, position_from, on}
use Rattle.reg_model.proofs.Words.{bytes_eq, IsEquivalence, on_equiv, nat_list_eq_equiv, and_parts, and_from, nat_tests, IsDistinct-push}
use Rattle.reg_model.proofs.Words.{canon, is_name, is_login, is_pattern, Limits, Text, Account, Token, Registry, id_of_login, token_of}
use Rattle.reg_model.proofs.Words.{with_id, change_at, exists, is_reserved_always, Command, UserAdd, UserDisable, UserEnable, TokenAdd}
use Rattle.reg_model.proofs.Words.{TokenRevoke, Reserve, Unreserve, OwnerAdd, Access, Users, Tokens, Crates, CrateRestrict, CrateOpen}
use Rattle.reg_model.proofs.Words.{ReaderAdd, ReaderRemove, Order, endpoints_named, patterns_given, is_endpoint, may_name, enable, IsFit}
use Rattle.reg_model.proofs.Words.{Sound, is_account, is_token}
use Rattle.reg_model.specs.Refusals.{refused, among}
use Rattle.reg_model.specs.Effects.{commanded}
use Rattle.reg_model.specs.Sound.{has_some}
use Rattle.reg_model.proofs.Cleared.{not_refused}
use Rattle.reg_model.proofs.Lists.{or_left, or_right, any_same, all_push, some_found}
use Rattle.reg_model.proofs.Places.{all_changed_at, distinct_changed_at, there_changed_at, there_more, ids_stay, found_there}
use Rattle.reg_model.proofs.SoundParts.{with_accounts, with_tokens}
use Rattle.reg_model.proofs.SoundOwners.{more_owners}
use Rattle.reg_model.proofs.SoundReaders.{opened_sound, reader_added, reader_removed, restricted_sound}
use Rattle.reg_model.proofs.SoundMarks.{reserve_keeps_sound, unreserve_keeps_sound}

is_true : (b : Bool) → not b ≡ false → b ≡ true
is_true true e = refl
is_true false e = cc

neither : (a b : Bool) → (a || b) ≡ false → (a ≡ false) × (b ≡ false)
neither true b e = cc
neither false b e = (refl, e)

-- a position that is none says that none passes
none_passes : {X : Type 0} (p : X → Bool) (k : ℕ) (xs : List X) → is_some (position_from p k xs) ≡ false → list_any p xs ≡ false
none_passes p k [] e = refl
none_passes p k (x ∷ xs) e = elim (p x) as (λ b. is_some (cond b (Some k) (position_from p (k + 1) xs)) ≡ false → (b || list_any p xs) ≡ false) [ true ↦ λ f. cc | false ↦ λ f. none_passes p (k + 1) xs f ] e

logins-equivalence : IsEquivalence (on (λ (a : Account). a.login) bytes_eq)
logins-equivalence = on_equiv (λ (a : Account). a.login) nat_list_eq_equiv

pub digests-equivalence : IsEquivalence (on (λ (t : Token). t.digest) bytes_eq)
digests-equivalence = on_equiv (λ (t : Token). t.digest) nat_list_eq_equiv

account_added : (s : Registry) (login : Text) (name : Option Text) → Sound s → (is_login login && may_name name) ≡ true → is_some (id_of_login s login) ≡ false → Sound (record s { accounts = s.accounts ++ record { login = login; name = name; enabled = true } ∷ [] })
account_added s login name sound good fresh = with_accounts s sound _
    (all_push is_account s.accounts (record { login = login; name = name; enabled = true }) sound.accounts good)
    (IsDistinct-push logins-equivalence s.accounts _ sound.logins (any_same _ _ (λ a. logins-equivalence.symm (record { login = login; name = name; enabled = true }) a) s.accounts ∙ none_passes (λ a. bytes_eq a.login login) 1 s.accounts fresh))
    (ids_stay s.accounts _ (there_more s.accounts _))

enabled_sound : (s : Registry) (b : Bool) (o : Option ℕ) → Sound s → Sound (record s { accounts = enable b o s.accounts })
enabled_sound s b None sound = sound
enabled_sound s b (Some id) sound = with_accounts s sound _
    (all_changed_at (λ (a : Account). record a { enabled = b }) is_account (λ a. refl) id s.accounts sound.accounts)
    (distinct_changed_at (λ (a : Account). record a { enabled = b }) (on (λ a. a.login) bytes_eq) (λ x y. refl) (λ x y. refl) id s.accounts sound.logins)
    (ids_stay s.accounts _ (there_changed_at (λ (a : Account). record a { enabled = b }) id s.accounts))

four : (a b c d p q r t : Bool) → (a || (b || (c || (d || false)))) ≡ true → (((a || p) || (b || q)) || ((c || r) || (d || t))) ≡ true
four true b c d p q r t e = refl
four false true c d p q r t e = or_left (p || true) _ (or_right p true refl)
four false false true d p q r t e = or_right (p || q) true refl
four false false false true p q r t e = or_right (p || q) (r || true) (or_right r true refl)
four false false false false p q r t e = cc

-- words of which the first is an endpoint's name some
named_some : (w : Text) (words : List Text) → is_endpoint w ≡ true → has_some (endpoints_named (w ∷ words)) ≡ true
named_some w words e =
    four (bytes_eq w (codes "publish-new")) (bytes_eq w (codes "publish-update")) (bytes_eq w (codes "yank")) (bytes_eq w (codes "change-owners"))
    (among words (codes "publish-new")) (among words (codes "publish-update")) (among words (codes "yank")) (among words (codes "change-owners")) e

some_named : (words : List Text) → (length words == 0 || not (list_all is_endpoint words)) ≡ false → has_some (endpoints_named words) ≡ true
some_named [] e = cc
some_named (w ∷ words) e = named_some w words (and_parts _ _ (is_true _ (neither _ _ e).1)).0

some_given : (ps : List Text) → list_all is_pattern ps ≡ true → (nat_lt 0 (length (patterns_given ps)) && list_all is_pattern (patterns_given ps)) ≡ true
some_given [] e = refl
some_given (p ∷ ps) e = and_from _ _ (positive p ps) e
  where
    positive : (p : Text) (ps : List Text) → nat_lt 0 (length (p ∷ ps)) ≡ true
    positive p ps = grind (arith, nat_tests)

account_found : (s : Registry) (login : Text) → not (is_some (id_of_login s login)) ≡ false → is_some (with_id s.accounts (unwrap_or (id_of_login s login) 0)) ≡ true
account_found s login e = by (id_of_login s login) refl e
  where
    by : (o : Option ℕ) → id_of_login s login ≡ o → not (is_some o) ≡ false → is_some (with_id s.accounts (unwrap_or o 0)) ≡ true
    by None f g = cc
    by (Some id) f g = found_there (λ a. bytes_eq a.login login) s.accounts id f

token_added : (s : Registry) (t : Token) → Sound s → is_token s.accounts t ≡ true → is_some (token_of s t.digest) ≡ false → Sound (record s { tokens = s.tokens ++ t ∷ [] })
token_added s t sound good fresh = with_tokens s sound _
    (all_push (is_token s.accounts) s.tokens t sound.tokens good)
    (IsDistinct-push digests-equivalence s.tokens t sound.digests (any_same _ _ (λ u. digests-equivalence.symm t u) s.tokens ∙ sym (some_found (λ u. bytes_eq u.digest t.digest) s.tokens) ∙ fresh))

token_revoked : (s : Registry) (id : ℕ) → Sound s → Sound (record s { tokens = change_at (λ t. record t { live = false }) id s.tokens })
token_revoked s id sound = with_tokens s sound _
    (all_changed_at (λ (t : Token). record t { live = false }) (is_token s.accounts) (λ t. refl) id s.tokens sound.tokens)
    (distinct_changed_at (λ (t : Token). record t { live = false }) (on (λ t. t.digest) bytes_eq) (λ x y. refl) (λ x y. refl) id s.tokens sound.digests)

named_crate : (s : Registry) (n : Text) → not (is_name n && exists s n) ≡ false → exists s n ≡ true
named_crate s n e = (and_parts (is_name n) (exists s n) (is_true _ e)).1

pub command_keeps_sound : (limits : Limits) (s : Registry) (c : Command) → IsFit (Order c) → refused limits s c ≡ None → Sound s → Sound (commanded s c)
unfolding commanded
command_keeps_sound limits s (UserAdd login name) fit ok sound =
    let g = not_refused limits s (UserAdd login name) ok in
    account_added s login name sound (is_true _ g.0) g.1.0
command_keeps_sound limits s (UserDisable login) fit ok sound = enabled_sound s false (id_of_login s login) sound
command_keeps_sound limits s (UserEnable login) fit ok sound = enabled_sound s true (id_of_login s login) sound
command_keeps_sound limits s (TokenAdd login words patterns digest) fit ok sound =
    let g = not_refused limits s (TokenAdd login words patterns digest) ok in
    token_added s _ sound
    (and_from _ _ (and_from _ _ (ap (λ n. n == 32) fit) (account_found s login g.0)) (and_from _ _ (some_named words g.1.0) (some_given patterns (is_true _ g.1.1.0))))
    g.1.1.1.1.0
command_keeps_sound limits s (TokenRevoke id) fit ok sound = token_revoked s id sound
command_keeps_sound limits s (Reserve n) fit ok sound = reserve_keeps_sound s n (is_reserved_always (canon n)) refl (is_true _ (not_refused limits s (Reserve n) ok).0) sound
command_keeps_sound limits s (Unreserve n) fit ok sound = unreserve_keeps_sound s n sound
command_keeps_sound limits s (OwnerAdd n login) fit ok sound = more_owners s n (login ∷ []) sound (named_crate s n (not_refused limits s (OwnerAdd n login) ok).0)
command_keeps_sound limits s (Access n) fit ok sound = sound
command_keeps_sound limits s Users fit ok sound = sound
command_keeps_sound limits s Tokens fit ok sound = sound
command_keeps_sound limits s Crates fit ok sound = sound
command_keeps_sound limits s (CrateRestrict n) fit ok sound = restricted_sound s n sound (named_crate s n (not_refused limits s (CrateRestrict n) ok).0)
command_keeps_sound limits s (CrateOpen n) fit ok sound = opened_sound s n sound
command_keeps_sound limits s (ReaderAdd n login) fit ok sound =
    let g = not_refused limits s (ReaderAdd n login) ok in
    reader_added s n _ sound (named_crate s n g.0) (account_found s login g.1.0)
command_keeps_sound limits s (ReaderRemove n login) fit ok sound = reader_removed s n _ sound
