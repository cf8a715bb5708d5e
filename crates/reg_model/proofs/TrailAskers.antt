-- Each line of a trail names who it was.
use Rattle.reg_model.proofs.Words.{◌≡◌, ◌+◌, ◌-◌, ◌==◌, ℕ, zero, suc, List, [], ◌∷◌, Bool, true, false, cond, Option, Some, None, refl, sym}
use Rattle.reg_model.proofs.Words.{◌∙◌, ap, subst, arith, not, is_some, slice_get, unwrap_or, decimal, find, position_from, option_map}
use Rattle.reg_model.proofs.Words.{bytes_eq, and_parts, nat_tests, bytes_eq-Decides, Limits, Text, Account, Registry, Token, token_of}
use Rattle.reg_model.proofs.Words.{with_id, first, account_of, Asked, Event, Malformed, Read, Index, Download, ListOwners, Publish, Yank}
use Rattle.reg_model.proofs.Words.{Unyank, AddOwners, RemoveOwners, Ask, Order, login_of, Sound, is_token, event_words, id_of_token}
use Rattle.reg_model.proofs.Words.{line_of, request_words, with_asker, words_of}
use Rattle.reg_model.specs.Facts.{access_facts}
use Rattle.reg_model.specs.Refusals.{denied}
use Rattle.reg_model.specs.Trail.{line}
use Rattle.reg_model.specs.TrailLaws.{LinesNameAskers, NamesAsker, NamesToken}
use Rattle.reg_model.proofs.Cleared.{not_denied}
use Rattle.reg_model.proofs.IndexPaths.{not_false}
use Rattle.reg_model.proofs.TrailPlain.{lines_are_read, nobody, passes_id, unrefused}
use Rattle.reg_model.proofs.TrailReplayed.{first_clear}

-- what is found has its place
pub record IsPlaced {X : Type 0} (p : X → Bool) (xs : List X) (from : ℕ) (x : X) : Type 0 where
  pub place : ℕ
  pub counted : position_from p from xs ≡ Some (from + place)
  pub there : slice_get xs place ≡ Some x
  pub passes : p x ≡ true

placed : {X : Type 0} (p : X → Bool) (xs : List X) (from : ℕ) (x : X) → find p xs ≡ Some x → IsPlaced p xs from x
placed p [] from x e = cc
placed {X} p (y ∷ ys) from x e = by (p y) refl e (λ k. placed p ys (from + 1) x k)
  where
    by : (b : Bool) → p y ≡ b → cond b (Some y) (find p ys) ≡ Some x → (find p ys ≡ Some x → IsPlaced p ys (from + 1) x) → IsPlaced p (y ∷ ys) from x
    by true h k more =
        let same : y ≡ x = cc in
        record { place = 0; counted = ap (λ b. cond b (Some from) (position_from p (from + 1) ys)) h ∙ ap Some (omega arith); there = ap Some same; passes = ap p (sym same) ∙ h }
    by false h k more =
        let it = more k in
        record { place = suc it.place; counted = ap (λ b. cond b (Some from) (position_from p (from + 1) ys)) h ∙ it.counted ∙ ap Some (omega arith); there = it.there; passes = it.passes }

not_zero : (i : ℕ) → ((1 + i) == 0) ≡ false
not_zero i = grind (arith, nat_tests)

-- ids count from 1
with_next : {X : Type 0} (xs : List X) (i : ℕ) → with_id xs (1 + i) ≡ slice_get xs i
with_next xs i = ap (λ b. cond b None (slice_get xs ((1 + i) - 1))) (not_zero i) ∙ ap (slice_get xs) (omega arith)

-- whoever changes something is known
known : (limits : Limits) (s : Registry) (digest : Text) (asked : Asked) (ws : List Text) → denied limits s (Some digest) asked ≡ None → request_words s asked ≡ Some ws → not (is_some (token_of s digest)) ≡ false
unfolding access_facts
known limits s digest (Publish p) ws ok h = first_clear _ (is_some (first s p.name)) _ _ (not_denied limits s digest (Publish p) ok)
known limits s digest (Yank n v) ws ok h = (not_denied limits s digest (Yank n v) ok).0
known limits s digest (Unyank n v) ws ok h = (not_denied limits s digest (Unyank n v) ok).0
known limits s digest (AddOwners n logins) ws ok h = (not_denied limits s digest (AddOwners n logins) ok).0
known limits s digest (RemoveOwners n logins) ws ok h = (not_denied limits s digest (RemoveOwners n logins) ok).0
known limits s digest (Malformed r) ws ok h = cc
known limits s digest (Read what) ws ok h = cc
known limits s digest (Index p) ws ok h = cc
known limits s digest (Download n v) ws ok h = cc
known limits s digest (ListOwners n) ws ok h = cc

named : (s : Registry) (digest : Text) → Sound s → (o : Option Token) → token_of s digest ≡ o → is_some o ≡ true → NamesToken s digest (decimal (id_of_token s digest)) (login_of s (account_of s digest))
named s digest sound None e h = cc
named s digest sound (Some t) e h =
    let l = placed (λ x. bytes_eq x.digest digest) s.tokens 1 t e in
    let id = 1 + l.place in
    let held : with_id s.tokens id ≡ Some t = with_next s.tokens l.place ∙ l.there in
    let good = passes_id (is_token s.accounts) s.tokens id t sound.tokens held in
    by (with_id s.accounts t.account) refl (and_parts _ _ (and_parts _ _ good).0).1 id held (ap (λ o. unwrap_or o 0) l.counted) ((bytes_eq-Decides t.digest digest).0 l.passes)
  where
    by : (o : Option Account) → with_id s.accounts t.account ≡ o → is_some o ≡ true → (id : ℕ) → with_id s.tokens id ≡ Some t → id_of_token s digest ≡ id → t.digest ≡ digest → NamesToken s digest (decimal (id_of_token s digest)) (login_of s (account_of s digest))
    by None f k id held number same = cc
    by (Some a) f k id held number same = record {
      id = id;
      token = t;
      account = a;
      number = ap decimal number;
      held = held;
      digest_is = same;
      of_account = f;
      login_is = ap (λ o. login_of s (unwrap_or (option_map (λ x. x.account) o) 0)) e ∙ ap (λ o. unwrap_or (option_map (λ x. x.login) o) []) f;
    }

-- the words behind who it was
with_name : (limits : Limits) (s : Registry) (e : Event) (words : List Text) → Sound s → event_words limits s e ≡ Some words → NamesAsker s e (with_asker s e words)
with_name limits s (Ask None asked) words sound h = absurd (nobody limits s asked words h)
with_name limits s (Ask (Some digest) asked) words sound h =
    let k = unrefused (denied limits s (Some digest) asked) (request_words s asked) words h in
    named s digest sound (token_of s digest) refl (not_false _ (known limits s digest asked words k.0 k.1))
with_name limits s (Order c) words sound h = (refl, refl)

pub lines_name_askers : LinesNameAskers
unfolding line
lines_name_askers limits s e l sound ids fit h = by (event_words limits s e) refl h
  where
    by : (o : Option (List Text)) → event_words limits s e ≡ o → option_map (λ words. line_of (with_asker s e words)) o ≡ Some l → NamesAsker s e (words_of l)
    by None f k = cc
    by (Some words) f k =
        let same : line_of (with_asker s e words) ≡ l = cc in
        subst (λ t. NamesAsker s e (words_of t)) same
        (subst (NamesAsker s e) (sym (lines_are_read limits s e words sound ids fit f).1) (with_name limits s e words sound f))
