-- Tokens that selections show.
use Rattle.reg_tables_represent.proofs.Words.{sorted_unique, row_of_token, StandTokens}
use Rattle.reg_tables_represent.proofs.Common.{◌≡◌, ◌==◌, [], ◌∷◌, ◌∙◌, ap, by_column, enumerate_from, filter, is_number, IsInOrder, IsPermutation-trans, List, map, maps_twice, None, one_row, Option, option_map, refl, Row, same_filter, shown_of, shows, Some, sym, Trees, ℕ}
use Rattle.reg_model.specs.Registry as model
use Rattle.reg_tables_sql.specs.declared.tokens.Token.{Token}
use Rattle.reg_tables_sql.specs.Tokens.{IsTokenWithId, columns_of_token}
use Rattle.reg_tables_represent.specs.TokenEntries.{entry_of_token, without_patterns}
use Rattle.reg_tables_represent.proofs.AccountEntries.{mark_is, heads, tails, number_is}
use Rattle.reg_tables_represent.proofs.Numbered.{none_at, one_at}
use Rattle.reg_tables_represent.proofs.Selected.{column_total, places_rise, same_head, same_one, same_tail}
use Rattle.reg_tables_represent.proofs.Standing.{none_row, same_number}
use Rattle.reg_tables_represent.proofs.VersionEntries.{bytes_are}

abbrev show : Row → Row
show = shows (0 ∷ 2 ∷ 3 ∷ 4 ∷ 5 ∷ 6 ∷ 7 ∷ 8 ∷ [])

same_token : (e : ℕ × model.Token) (t : Token) → columns_of_token t ≡ show (row_of_token e) → entry_of_token t ≡ without_patterns e
same_token e t h =
    let id = number_is (heads h) in
    let digest = bytes_are (heads (tails h)) in
    let account = number_is (heads (tails (tails h))) in
    let marks = tails (tails (tails h)) in
    let live = mark_is _ _ (heads marks) in
    let publish_new = mark_is _ _ (heads (tails marks)) in
    let publish_update = mark_is _ _ (heads (tails (tails marks))) in
    let yank = mark_is _ _ (heads (tails (tails (tails marks)))) in
    let change_owners = mark_is _ _ (heads (tails (tails (tails (tails marks))))) in
    λ i.
    (id i, record { digest = digest i; account = account i; live = live i; endpoints = record { publish_new = publish_new i; publish_update = publish_update i; yank = yank i; change_owners = change_owners i }; patterns = [] })

each_token : (es : List (ℕ × model.Token)) (list : List Token) → map columns_of_token list ≡ map (λ e. show (row_of_token e)) es → map entry_of_token list ≡ map without_patterns es
each_token [] [] h = refl
each_token (e ∷ es) [] h = absurd cc
each_token [] (t ∷ list) h = absurd cc
each_token (e ∷ es) (t ∷ list) h = rw (same_token e t (same_head h)) (ap (λ l. without_patterns e ∷ l) (each_token es list (same_tail h)))

pub lists_tokens : (tokens : List model.Token) (db : Trees) → StandTokens tokens db → (list : List Token) → IsInOrder (by_column 0) (db 3) show (map columns_of_token list) → map entry_of_token list ≡ map without_patterns (enumerate_from 1 tokens)
lists_tokens tokens db stands list h =
    let es = enumerate_from 1 tokens in
    let all = sorted_unique (by_column 0) (column_total 0) (map row_of_token es) h.ordered (places_rise row_of_token (λ e. refl) 1 tokens) (IsPermutation-trans (map row_of_token es) (db 3) h.ordered stands.rows h.same) h.sorted in
    each_token es list (h.shown ∙ ap (map show) all ∙ maps_twice row_of_token show es)

none_shown : (found : Option Token) → ◌≡◌ {A = List Row} [] (shown_of columns_of_token found) → found ≡ None
none_shown None h = refl
none_shown (Some t) h = absurd cc

one_shown : (e : ℕ × model.Token) (found : Option Token) → ◌≡◌ {A = List Row} (show (row_of_token e) ∷ []) (shown_of columns_of_token found) → option_map (λ t. t.live) found ≡ Some e.1.live
one_shown e None h = absurd cc
one_shown e (Some t) h = ap (λ e. Some e.1.live) (same_token e t (sym (same_one h)))

-- the token with an id is live, or not
pub live_told : (tokens : List model.Token) (db : Trees) → StandTokens tokens db → (id : ℕ) (found : Option Token) → IsTokenWithId id db found
    → option_map (λ t. t.live) found ≡ option_map (λ t. t.live) (model.with_id tokens id)
live_told tokens db stands id found h = by (model.with_id tokens id) refl
  where
    entries : List (ℕ × model.Token)
    entries = enumerate_from 1 tokens

    its_entries : filter (λ e. is_number 0 id (row_of_token e)) entries ≡ filter (λ e. e.0 == id) entries
    its_entries = same_filter _ _ (λ e. same_number e.0 id) entries

    by : (o : Option model.Token) → model.with_id tokens id ≡ o → option_map (λ t. t.live) found ≡ option_map (λ t. t.live) o
    by None none =
        let rows = none_row row_of_token (is_number 0 id) entries (db 3) stands.rows (its_entries ∙ none_at id tokens none) in
        ap (option_map (λ t. t.live)) (none_shown found (sym (ap (map show) rows) ∙ h))
    by (Some x) is =
        let rows = one_row row_of_token (is_number 0 id) (id, x) entries (db 3) stands.rows (its_entries ∙ one_at id tokens x is) in
        one_shown (id, x) found (sym (ap (map show) rows) ∙ h)
