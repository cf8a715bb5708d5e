-- From what was asked to the texts of the registry.
use Rattle.reg_service_commands.proofs.Words.{◌≡◌, ◌==◌, ◌-◌, ℕ, ◌+◌, List, [], ◌++◌, map, false, Some, sym, ap, ◌∙◌, arith, slice_get}
use Rattle.reg_service_commands.proofs.Words.{unwrap_or, enumerate_from, filter, flat_map, option_map, ne_eqb, flat_map-map, Registry, Text}
use Rattle.reg_service_commands.proofs.Words.{with_id, token_line, user_line, Account, entry_of_account, line_of_grant, line_of_reader}
use Rattle.reg_service_commands.proofs.Words.{line_among}
use Rattle.reg_names.specs.declared.endpoint.Endpoint.{Endpoint}
use Rattle.reg_model.specs.Grants.{all_endpoints, grants, is_granted, who_reads}
use Rattle.reg_model.specs.Registry as model
use Rattle.reg_model.specs.Reports.{access_text, grant_line, login_of_token, reader_line, tokens_text, users_text}
use Rattle.reg_access.specs.Grants.{Told, granted, login_at, told_of}
use Rattle.reg_access.specs.declared.grants.Grant.{Grant}
use Rattle.reg_service_commands.proofs.Behind.{flat_flat, same_entries}
use Rattle.reg_service_commands.proofs.Logins.{login_is}

pub users_told : (s : Registry) (list : List Account) (text : Text) → text ≡ flat_map (λ a. user_line (entry_of_account a)) list → map entry_of_account list ≡ enumerate_from 1 s.accounts → text ≡ users_text s
unfolding users_text
users_told s list text told lists = told ∙ sym (flat_map-map user_line entry_of_account list) ∙ ap (flat_map user_line) lists

pub tokens_told : (s : Registry) (accounts : List Account) (text : Text) → map entry_of_account accounts ≡ enumerate_from 1 s.accounts → text ≡ flat_map (line_among accounts) (enumerate_from 1 s.tokens) → text ≡ tokens_text s
unfolding tokens_text
tokens_told s accounts text lists told = told ∙ same_entries (line_among accounts) _ 1 s.tokens (λ k t at. ap (λ l. token_line l (1 + k, t)) (login_is s accounts lists t.account))

module _ (s : Registry) (n : Text) where
  -- the login of a token is that of its account
  its_login : (k : ℕ) (t : model.Token) → slice_get s.tokens k ≡ Some t → login_of_token s (1 + k) ≡ login_at s t.account
  its_login k t at =
      let some : (1 + k == 0) ≡ false = ne_eqb (1 + k) 0 (λ e. absurd (omega (arith, e))) in
      let place : (1 + k) - 1 ≡ k = omega arith in
      let found : with_id s.tokens (1 + k) ≡ Some t = rw (some, place) at in
      ap (λ o. unwrap_or (option_map (λ (t : model.Token). login_at s t.account) o) []) found

  abbrev its_grants : model.Token → List Endpoint
  its_grants t = filter (is_granted s n t) all_endpoints

  abbrev line : Told → Text
  line t = grant_line (t.0, t.1) t.2

  grants_told : flat_map line (granted s n) ≡ flat_map (λ g. grant_line g (login_of_token s g.0)) (grants s n)
  unfolding grants
  grants_told =
      flat_flat line (λ e. map (λ k. (e.0, k, login_at s e.1.account)) (its_grants e.1)) (enumerate_from 1 s.tokens)
      ∙ same_entries _ _ 1 s.tokens (λ k t at. flat_map-map line (λ e. (1 + k, e, login_at s t.account)) (its_grants t) ∙ ap (λ l. flat_map (λ e. grant_line (1 + k, e) l) (its_grants t)) (sym (its_login k t at))
      ∙ sym (flat_map-map (λ (g : ℕ × Endpoint). grant_line g (login_of_token s g.0)) (λ e. (1 + k, e)) (its_grants t)))
      ∙ sym (flat_flat (λ g. grant_line g (login_of_token s g.0)) (λ (e : ℕ × model.Token). map (λ k. (e.0, k)) (its_grants e.1)) (enumerate_from 1 s.tokens))

  pub access_told : (list : List Grant) (readers : List (ℕ × Text)) (text : Text) → text ≡ flat_map line_of_grant list ++ flat_map line_of_reader readers → map told_of list ≡ granted s n → readers ≡ map (λ o. (o.0, o.1.login)) (who_reads s n) → text ≡ access_text s n
  unfolding access_text
  access_told list readers text told asked read =
      let acting : flat_map line_of_grant list ≡ flat_map (λ g. grant_line g (login_of_token s g.0)) (grants s n) = sym (flat_map-map line told_of list) ∙ ap (flat_map line) asked ∙ grants_told in
      let reading : flat_map line_of_reader readers ≡ flat_map (λ r. reader_line r.1.login) (who_reads s n) = ap (flat_map line_of_reader) read ∙ flat_map-map line_of_reader (λ (r : ℕ × model.Account). (r.0, r.1.login)) (who_reads s n) in
      told ∙ (λ i. acting i ++ reading i)
