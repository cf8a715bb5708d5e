-- What passes makes sound accounts, tokens and reserved names.
use Rattle.reg_check_sound.proofs.Words.{string_bytes, ◌&&◌, ◌||◌, is_some, AllByRecursion, enumerate_from, list_all, list_any, is_eq, on}
use Rattle.reg_check_sound.proofs.Words.{and_parts, and_from, not-true, length-map, list_all-map, IsPermutation-sym, list_any-IsPermutation}
use Rattle.reg_check_sound.proofs.Words.{is_eq-slice_cmp, all-permutation, all_from_map, with_id, text_cmp, same_key, text_apart, Scope}
use Rattle.reg_check_sound.proofs.Words.{Token, row_of_account, row_of_token, same_text, has_account, is_reserved, is_scope, is_token, C6}
use Rattle.reg_check_sound.proofs.Words.{account_from, registry_from, token_from, RefersTo, same_value}
use Rattle.reg_check_sound.proofs.Common.{◌≡◌, ◌==◌, ◌+◌, [], ◌∷◌, ◌∙◌, all_in, AllRows, any_in, ap, bytes_eq, canon, false, Int, is_name, length, List, list_any_map, map, nat_list_cmp_total, not, pos, refl, Row, rowid, same_bytes, same_number, subst, sym, Trees, true, ℕ}
use Rattle.std.specs.List.{IsDistinct}
use Rattle.std.specs.Ordering.{eq_by_cmp}
use Rattle.std.specs.FinSet as finset
use Rattle.sqlite_value.proofs.OrderLemmas.{value_cmp-Blob}
use Rattle.reg_model.specs.Crates.{is_reserved_always}
use Rattle.reg_model.specs.Registry as model
use Rattle.reg_model.specs.Sound as sound
use Rattle.reg_check_sound.proofs.Accounts.{accounts_stand}
use Rattle.reg_check_sound.proofs.Ids.{there_at}
use Rattle.reg_check_sound.proofs.Passing.{Passing, accounts_are, tokens_are}
use Rattle.reg_check_sound.proofs.ScopesThere.{Has, all_have, all_patterns, some_pattern}
use Rattle.reg_check_sound.proofs.Shapes.{counted_are, counted_ids, upto}
use Rattle.reg_check_sound.proofs.Tokens.{tokens_stand}
use Rattle.reg_check_sound.proofs.Uniques.{unique_so, values_apart}

module _ (it : AllRows) (db : Trees) (h : Passing it db) where
  abbrev s : model.Registry
  s = registry_from it db

  -- what refers to an account is the id of one
  pub refers_to_account : (id : ℕ) → list_any (λ p. same_value (rowid p) (Int (pos id))) (db 1) ≡ true → is_some (with_id s.accounts id) ≡ true
  refers_to_account id refers =
      let test = λ (p : Row). same_value (rowid p) (Int (pos id)) in
      let same = list_any-IsPermutation test (map row_of_account (enumerate_from 1 s.accounts)) (db 1) (accounts_stand it db h).rows in
      let counted = list_any_map test row_of_account (enumerate_from 1 s.accounts) ∙ any_alike (enumerate_from 1 s.accounts) in
      there_at s.accounts id (sym counted ∙ same ∙ refers)
    where
      any_alike : (es : List (ℕ × model.Account)) → list_any (λ e. same_value (rowid (row_of_account e)) (Int (pos id))) es ≡ list_any (λ e. e.0 == id) es
      any_alike [] = refl
      any_alike (e ∷ es) = λ i. same_number e.0 id i || any_alike es i

  -- and so is an account that is there
  pub account_there : (id : ℕ) → has_account it id ≡ true → is_some (with_id s.accounts id) ≡ true
  account_there id there =
      let list = it.accounts.items in
      let placed = counted_are (λ a. a.id) account_from 1 list (accounts_are it db h).counted in
      there_at s.accounts id (ap (list_any (λ e. e.0 == id)) (sym placed) ∙ list_any_map (λ e. e.0 == id) (λ a. (a.id, account_from a)) list ∙ there)

  pub tokens_sound : list_all (sound.is_token s.accounts) s.tokens ≡ true
  tokens_sound =
      let tokens = it.tokens.items in
      let scopes = it.scopes.items in
      let ids : List ℕ = map (λ t. t.id) tokens in
      let passes = tokens_are it db h in
      let numbers : upto 1 (length tokens) ≡ ids = ap (upto 1) (sym (length-map tokens (λ (t : Token). t.id))) ∙ sym (counted_ids 1 ids passes.counted) in
      let have = all_from_map (Has scopes) (λ (t : Token). t.id) tokens (subst (AllByRecursion (Has scopes)) numbers (all_have (length tokens) scopes passes.placed)) in
      let stored = (tokens_stand it db h).rows in
      let refers = all_from_map (RefersTo (db 1) 3) row_of_token (enumerate_from 1 s.tokens) (all-permutation (RefersTo (db 1) 3) (db 3) (map row_of_token (enumerate_from 1 s.tokens)) (IsPermutation-sym _ (db 3) stored) h.rules.parents.token_accounts) in
      each tokens scopes 1 passes.whole passes.scopes have refers
    where
      each : (tokens : List Token) (scopes : List Scope) (n : ℕ) → list_all is_token tokens ≡ true → list_all is_scope scopes ≡ true → AllByRecursion (λ t. Has scopes t.id) tokens
          → AllByRecursion (λ e. RefersTo (db 1) 3 (row_of_token e)) (enumerate_from n (map (token_from scopes) tokens)) → list_all (sound.is_token s.accounts) (map (token_from scopes) tokens) ≡ true
      each [] scopes n pass whole have refers = refl
      each (t ∷ tokens) scopes n pass whole have refers =
          let p = and_parts (is_token t) (list_all is_token tokens) pass in
          let q = and_parts (length t.digest.items == 32) (sound.has_some t.endpoints) p.0 in
          and_from _ _ (and_from _ _ (and_from _ _ q.0 (refers_to_account t.account refers.0)) (and_from _ _ q.1 (and_from _ _ (some_pattern t.id scopes have.0) (all_patterns t.id scopes whole)))) (each tokens scopes (n + 1) p.1 whole have.1 refers.1)

  pub logins_apart : IsDistinct (on (λ a. a.login) bytes_eq) s.accounts
  logins_apart = values_apart (on (λ a. a.login) bytes_eq) 1 s.accounts
      (unique_so row_of_account (enumerate_from 1 s.accounts) (db 1) (accounts_stand it db h).rows 2 (λ a b. bytes_eq a.1.login b.1.login) (λ a b. same_text a.1.login b.1.login) h.rules.uniques.logins)

  pub digests_apart : IsDistinct (on (λ t. t.digest) bytes_eq) s.tokens
  digests_apart = values_apart (on (λ t. t.digest) bytes_eq) 1 s.tokens
      (unique_so row_of_token (enumerate_from 1 s.tokens) (db 3) (tokens_stand it db h).rows 2 (λ a b. bytes_eq a.1.digest b.1.digest) (λ a b. ap is_eq (value_cmp-Blob a.1.digest b.1.digest) ∙ is_eq-slice_cmp a.1.digest b.1.digest) h.rules.uniques.digests)

  pub reserved_sound : (c : model.Text) → finset.contains s.reserved c ≡ true → ((n : model.Text) × (is_name n ≡ true) × (canon n ≡ c)) × (is_reserved_always c ≡ false)
  reserved_sound c there =
      let texts : List model.Text = map (λ t. string_bytes t) it.reserved.items in
      let t = any_in (eq_by_cmp text_cmp c) texts (sym (finset.contains-from_list nat_list_cmp_total texts c) ∙ there) in
      let same : c ≡ t.0 = same_key text_apart c t.0 t.2 in
      let pass = all_in is_reserved texts t.0 (list_all-map is_reserved (λ t. string_bytes t) it.reserved.items ∙ h.all C6) t.1 in
      let p = and_parts (is_name t.0 && bytes_eq (canon t.0) t.0) (not (is_reserved_always t.0)) pass in
      let q = and_parts (is_name t.0) (bytes_eq (canon t.0) t.0) p.0 in
      ((t.0, q.0, same_bytes (canon t.0) t.0 q.1 ∙ sym same), ap is_reserved_always same ∙ not-true (is_reserved_always t.0) p.1)
