-- Where the rows stand for a sound registry, the row of a digest is that of its token and of the token's account.
use Rattle.reg_access.proofs.Words.{◌≡◌, ℕ, ◌+◌, ◌-◌, pos, List, [], ◌∷◌, ◌++◌, map, Bool, true, false, cond, Option, Some, None, is_some}
use Rattle.reg_access.proofs.Words.{refl, sym, ap, subst, ◌∙◌, enumerate_from, filter, find, flat_map, AllByRecursion, on, bytes_eq}
use Rattle.reg_access.proofs.Words.{and_parts, Int, Blob, Row, Trees, token_of, with_id, holds, is_enabled, Sound, is_token, not_true}
use Rattle.reg_access.proofs.Words.{true_not_false, sql_bool, equals_int, same_filter, IdAssignment, StandsBy, row_of_account, row_of_token}
use Rattle.reg_access.proofs.Words.{tokens_with_accounts, bytes_same, same_bytes, at_place, one_at, one_row, none_row, same_number}
use Rattle.reg_access.proofs.Words.{is_mark_set, TellsToken}
use Rattle.std.specs.List.{IsDistinct}
use Rattle.std.specs.Ordering.{is_eq}
use Rattle.std.proofs.lemmas.Map.Keys.{IsDistinct-head, IsDistinct-tail}
use Rattle.std.proofs.lemmas.Map.Text.{is_eq-slice_cmp}
use Rattle.sqlite.specs.Order.{value_cmp}
use Rattle.sqlite_value.proofs.OrderLemmas.{value_cmp-Blob}
use Rattle.reg_model.specs.Registry as model
use Rattle.reg_model.specs.Facts.{endpoints_of}
use Rattle.reg_tables_schema.specs.Tests.{is_blob}
use Rattle.reg_tables_sql.specs.Tokens.{is_of_token, token_and_account}
use Rattle.reg_tables_represent.proofs.Numbered.{found_at}
use Rattle.reg_access.proofs.ScopeLaw.{all_at}
use Rattle.reg_access.proofs.Somes.{same_some, the_some}

same_blob : (t u : List ℕ) → is_eq (value_cmp (Blob t) (Blob u)) ≡ bytes_eq t u
same_blob t u = ap is_eq (value_cmp-Blob t u) ∙ is_eq-slice_cmp t u

set_is : (b : Bool) → is_mark_set (sql_bool b) ≡ b
set_is true = refl
set_is false = refl

module _ (digest : List ℕ) where
  abbrev passes : model.Token → Bool
  passes t = bytes_eq t.digest digest

  abbrev Entry : Type 0
  Entry = ℕ × model.Token

  none_pass : (n : ℕ) (ts : List model.Token) → find passes ts ≡ None → filter (λ (e : Entry). passes e.1) (enumerate_from n ts) ≡ []
  none_pass n [] h = refl
  none_pass n (t ∷ ts) h = split (passes t) refl (none_pass (n + 1) ts) h
    where
      split : (b : Bool) → passes t ≡ b → (find passes ts ≡ None → filter (λ (e : Entry). passes e.1) (enumerate_from (n + 1) ts) ≡ []) → cond b (Some t) (find passes ts) ≡ None
          → cond b ((n, t) ∷ filter (λ (e : Entry). passes e.1) (enumerate_from (n + 1) ts)) (filter (λ (e : Entry). passes e.1) (enumerate_from (n + 1) ts)) ≡ []
      split true e rest h = absurd cc
      split false e rest h = rest h

  others_fail : (t : model.Token) (n : ℕ) (ts : List model.Token) → passes t ≡ true → AllByRecursion (λ u. bytes_eq t.digest u.digest ≡ false) ts → filter (λ (e : Entry). passes e.1) (enumerate_from n ts) ≡ []
  others_fail t n [] h all = refl
  others_fail t n (u ∷ ts) h all =
      let other : passes u ≡ false = not_true _ (λ k. true_not_false _ (bytes_same t.digest u.digest (same_bytes t.digest digest h ∙ sym (same_bytes u.digest digest k))) all.0) in
      rw other (others_fail t (n + 1) ts h all.1)

  alone : (n : ℕ) (ts : List model.Token) → IsDistinct (on (λ t. t.digest) bytes_eq) ts → (t : model.Token) → find passes ts ≡ Some t → (id : ℕ) × (filter (λ (e : Entry). passes e.1) (enumerate_from n ts) ≡ (id, t) ∷ [])
  alone n [] d t h = absurd cc
  alone n (u ∷ ts) d t h = split (passes u) refl (alone (n + 1) ts (IsDistinct-tail (on (λ t. t.digest) bytes_eq) u ts d) t) h
    where
      split : (b : Bool) → passes u ≡ b → (find passes ts ≡ Some t → (id : ℕ) × (filter (λ (e : Entry). passes e.1) (enumerate_from (n + 1) ts) ≡ (id, t) ∷ [])) → cond b (Some u) (find passes ts) ≡ Some t
          → (id : ℕ) × (cond b ((n, u) ∷ filter (λ (e : Entry). passes e.1) (enumerate_from (n + 1) ts)) (filter (λ (e : Entry). passes e.1) (enumerate_from (n + 1) ts)) ≡ (id, t) ∷ [])
      split true e rest h = (n, ap (λ es. (n, u) ∷ es) (others_fail u (n + 1) ts e (IsDistinct-head (on (λ t. t.digest) bytes_eq) u ts d)) ∙ ap (λ k. (n, k) ∷ []) (same_some h))
      split false e rest h = rest h

  module _ (ids : IdAssignment) (s : model.Registry) (db : Trees) (sound : Sound s) (stands : StandsBy ids s db) where
    abbrev rows : List Row
    rows = tokens_with_accounts digest db

    accounts_of : Row → List Row
    accounts_of token = map (token_and_account token) (filter (is_of_token token) (db 1))

    tests_alike : filter (λ (e : Entry). is_blob 2 digest (row_of_token e)) (enumerate_from 1 s.tokens) ≡ filter (λ (e : Entry). passes e.1) (enumerate_from 1 s.tokens)
    tests_alike = same_filter (λ (e : Entry). is_blob 2 digest (row_of_token e)) (λ e. passes e.1) (λ e. same_blob e.1.digest digest) (enumerate_from 1 s.tokens)

    unknown : token_of s digest ≡ None → rows ≡ []
    unknown h = ap (flat_map (λ t. map (token_and_account t) (filter (is_of_token t) (db 1)))) (none_row row_of_token (is_blob 2 digest) (enumerate_from 1 s.tokens) (db 3) stands.tokens.rows (tests_alike ∙ none_pass 1 s.tokens h))

    -- the token of the digest, its id and its account
    pub record IsKnown (t : model.Token) : Type 0 where
      pub id : ℕ
      pub at : with_id s.tokens id ≡ Some t
      pub account : model.Account
      pub account_at : with_id s.accounts t.account ≡ Some account
      pub rows_are : rows ≡ token_and_account (row_of_token (id, t)) (row_of_account (t.account, account)) ∷ []

    has_account : (t : model.Token) → is_token s.accounts t ≡ true → is_some (with_id s.accounts t.account) ≡ true
    has_account t h = (and_parts _ _ (and_parts _ _ h).0).1

    one_account : (e : Entry) (a : model.Account) → with_id s.accounts e.1.account ≡ Some a → filter (is_of_token (row_of_token e)) (db 1) ≡ row_of_account (e.1.account, a) ∷ []
    one_account e a found =
        one_row row_of_account (is_of_token (row_of_token e)) (e.1.account, a) (enumerate_from 1 s.accounts) (db 1) stands.accounts.rows
        (same_filter _ _ (λ x. equals_int (Int (pos x.0)) (pos e.1.account) ∙ same_number x.0 e.1.account) (enumerate_from 1 s.accounts) ∙ one_at e.1.account s.accounts a found)

    pub known : (t : model.Token) → token_of s digest ≡ Some t → IsKnown t
    known t h =
        let only = alone 1 s.tokens sound.digests t h in
        let at : with_id s.tokens only.0 ≡ Some t = found_at (λ e. passes e.1) only.0 t s.tokens only.1 in
        let a = the_some (with_id s.accounts t.account) (has_account t (all_at (is_token s.accounts) s.tokens (only.0 - 1) t sound.tokens (at_place only.0 s.tokens t at).1)) in
        let token = one_row row_of_token (is_blob 2 digest) (only.0, t) (enumerate_from 1 s.tokens) (db 3) stands.tokens.rows (tests_alike ∙ only.1) in
        record {
          id = only.0;
          at = at;
          account = a.0;
          account_at = a.1;
          rows_are = ap (flat_map (λ k. map (token_and_account k) (filter (is_of_token k) (db 1)))) token ∙ ap (λ rs. map (token_and_account (row_of_token (only.0, t))) rs ++ []) (one_account (only.0, t) a.0 a.1);
        }

    abbrev Tells : List Row → Type 0
    Tells = TellsToken s digest

    told_unknown : token_of s digest ≡ None → TellsToken s digest []
    told_unknown h = record {
      known = ap is_some (sym h);
      live = ap (holds (λ t. t.live)) (sym h);
      enabled = ap (holds (λ t. is_enabled s t.account)) (sym h);
      endpoints = ap endpoints_of (sym h);
      ids = λ t e. absurd (no_some (sym h ∙ e));
    }
      where
        no_some : {t : model.Token} → ◌≡◌ {A = Option model.Token} None (Some t) → ⊥
        no_some e = absurd cc

    told_known : (t : model.Token) → token_of s digest ≡ Some t → (it : IsKnown t) → TellsToken s digest (token_and_account (row_of_token (it.id, t)) (row_of_account (t.account, it.account)) ∷ [])
    told_known t h it = record {
      known = ap is_some (sym h);
      live = set_is t.live ∙ ap (holds (λ t. t.live)) (sym h);
      enabled = set_is it.account.enabled ∙ ap (holds (λ a. a.enabled)) (sym it.account_at) ∙ ap (holds (λ t. is_enabled s t.account)) (sym h);
      endpoints = (λ i. record { publish_new = set_is t.endpoints.publish_new i; publish_update = set_is t.endpoints.publish_update i; yank = set_is t.endpoints.yank i; change_owners = set_is t.endpoints.change_owners i })
          ∙ ap endpoints_of (sym h);
      ids = λ u e. subst (λ (k : model.Token). (id : ℕ) × (with_id s.tokens id ≡ Some k) × (Int (pos it.id) ≡ Int (pos id)) × (Int (pos t.account) ≡ Int (pos k.account))) (same_some (sym h ∙ e)) (it.id, it.at, refl, refl);
    }

    pub tells_token : TellsToken s digest rows
    tells_token = split (token_of s digest) refl
      where
        split : (o : Option model.Token) → token_of s digest ≡ o → TellsToken s digest rows
        split None h = subst Tells (sym (unknown h)) (told_unknown h)
        split (Some t) h = let it = known t h in subst Tells (sym it.rows_are) (told_known t h it)
