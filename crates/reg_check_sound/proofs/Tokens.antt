-- Tokens that pass, with their scopes, stand for tokens with patterns.
use Rattle.reg_check_sound.proofs.Words.{by_column, by_columns, columns_of_scope, columns_of_token, row_of_token, registry_from, token_from}
use Rattle.reg_check_sound.proofs.Words.{IsKeyed, IsWhole}
use Rattle.reg_check_sound.proofs.Common.{◌≡◌, [], ◌∷◌, ◌∙◌, all_weaker, AllRows, ap, drop, IsPermutation, map, maps_twice, Row, shows, subst, sym, Trees}
use Rattle.reg_tables_represent.specs.Stands.{StandTokens}
use Rattle.reg_check_sound.proofs.Passing.{Passing, tokens_are}
use Rattle.reg_check_sound.proofs.ScopeWalk.{scopes_are}
use Rattle.reg_check_sound.proofs.Shapes.{with_null, rows_from, whole_rows, counted_are}
use Rattle.reg_check_sound.proofs.Versions.{show, told}

told_scope : (r : Row) → IsWhole (0 ∷ 1 ∷ 2 ∷ 3 ∷ 4 ∷ 5 ∷ []) r → shows (1 ∷ 2 ∷ 3 ∷ 4 ∷ 5 ∷ []) r ≡ drop 1 r
told_scope r h = ap (drop 1) h

module _ (it : AllRows) (db : Trees) (h : Passing it db) where
  pub tokens_stand : StandTokens (registry_from it db).tokens db
  tokens_stand =
      let tokens = it.tokens.items in
      let scopes = it.scopes.items in
      let passes = tokens_are it db h in
      let whole = all_weaker (IsKeyed (0 ∷ 1 ∷ 2 ∷ 3 ∷ 4 ∷ 5 ∷ 6 ∷ 7 ∷ 8 ∷ [])) (λ r. with_null (show r) ≡ r) told (db 3) h.rules.columns.tokens in
      let rows = whole_rows show with_null columns_of_token (by_column 0) (db 3) tokens whole h.are.tokens in
      let entries = sym (maps_twice (λ t. (t.id, token_from scopes t)) row_of_token tokens) ∙ ap (map row_of_token) (counted_are (λ t. t.id) (token_from scopes) 1 tokens passes.counted) in
      let whole_scopes = all_weaker (IsWhole (0 ∷ 1 ∷ 2 ∷ 3 ∷ 4 ∷ 5 ∷ [])) (λ r. shows (1 ∷ 2 ∷ 3 ∷ 4 ∷ 5 ∷ []) r ≡ drop 1 r) told_scope (db 5) h.rules.columns.scopes in
      let of_scopes = rows_from (shows (1 ∷ 2 ∷ 3 ∷ 4 ∷ 5 ∷ [])) (λ r. r) (drop 1) columns_of_scope (by_columns 1 2) (db 5) scopes whole_scopes h.are.scopes in
      record {
        rows = subst (λ xs. IsPermutation xs (db 3)) entries rows;
        scopes = subst (λ xs. IsPermutation xs (map (drop 1) (db 5))) (scopes_are tokens scopes passes.counted passes.placed passes.scopes) of_scopes;
      }
