-- The ids and the endpoints of tokens that stand for those of a sound registry.
use Rattle.reg_check_sound.proofs.Words.{list_all-map, are_counted, is_token, tokens_pass, columns_of_scope, length-map}
use Rattle.reg_check_sound.proofs.Common.{◌≡◌, ◌==◌, ◌∙◌, ◌&&◌, AllRows, and_from, and_parts, ap, Bool, enumerate_from, IdAssignment, length, list_all, map, maps_twice, sym, Trees, true}
use Rattle.reg_model.specs.Registry as model
use Rattle.reg_model.specs.Sound as sound
use Rattle.reg_model.proofs.Lists.{all_so}
use Rattle.reg_check_sound.proofs.Standing.{Standing}
use Rattle.reg_tables_represent.specs.TokenEntries.{entry_of_token, without_patterns}
use Rattle.reg_tables_represent.proofs.TokenEntries.{lists_tokens}
use Rattle.reg_check_sound.proofs.AccountsPass.{are_places, each_value}
use Rattle.reg_check_sound.proofs.ScopesPass.{has_patterns, placed}
use Rattle.reg_tables_represent.proofs.ScopeRows.{lists_scopes}
use Rattle.std.proofs.lemmas.List.FromFn.{length-enumerate_from}

abbrev is_whole : model.Token → Bool
is_whole t = length t.digest == 32 && sound.has_some t.endpoints

module _ (it : AllRows) (db : Trees) (ids : IdAssignment) (s : model.Registry) (h : Standing it db ids s) where
  entries : map entry_of_token it.tokens.items ≡ map without_patterns (enumerate_from 1 s.tokens)
  entries = lists_tokens s.tokens db h.holds.stands.tokens it.tokens.items h.are.tokens

  pub tokens_counted : are_counted 1 (map (λ t. t.id) it.tokens.items) ≡ true
  tokens_counted =
      ap (are_counted 1) (sym (maps_twice entry_of_token (λ e. e.0) it.tokens.items) ∙ ap (map (λ e. e.0)) entries ∙ maps_twice without_patterns (λ e. e.0) (enumerate_from 1 s.tokens)) ∙ are_places 1 s.tokens

  pub tokens_whole : list_all is_token it.tokens.items ≡ true
  tokens_whole =
      sym (list_all-map (λ e. is_whole e.1) entry_of_token it.tokens.items) ∙ ap (list_all (λ e. is_whole e.1)) entries ∙ list_all-map (λ e. is_whole e.1) without_patterns (enumerate_from 1 s.tokens)
      ∙ each_value is_whole 1 s.tokens ∙ all_so (sound.is_token s.accounts) is_whole (λ t e.
      let p = and_parts _ _ e in
      let a = and_parts (length t.digest == 32) _ p.0 in
      and_from _ _ a.0 (and_parts (sound.has_some t.endpoints) _ p.1).0) s.tokens h.holds.sound.tokens

  pub tokens_pass_so : tokens_pass it ≡ true
  tokens_pass_so =
      let same : length s.tokens ≡ length it.tokens.items =
      sym (length-enumerate_from 1 s.tokens) ∙ sym (length-map (enumerate_from 1 s.tokens) without_patterns) ∙ ap length (sym entries) ∙ length-map it.tokens.items entry_of_token in
      let patterns = all_so (sound.is_token s.accounts) has_patterns (λ t e. (and_parts (sound.has_some t.endpoints) _ (and_parts _ _ e).1).1) s.tokens h.holds.sound.tokens in
      let scopes = placed (length it.tokens.items) it.scopes.items s.tokens same patterns (lists_scopes s.tokens db h.holds.stands.tokens (map columns_of_scope it.scopes.items) h.are.scopes) in
      and_from _ _ (and_from _ _ tokens_counted tokens_whole) (and_from _ _ scopes.0 scopes.1)
