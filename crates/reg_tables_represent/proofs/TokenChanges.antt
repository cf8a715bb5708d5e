-- What a change of the rows is on the tokens that they stand for.
use Rattle.reg_tables_sql.specs.Tokens.{token_row}
use Rattle.reg_tables_sql.specs.Updates.{KeepsWhereNone}
use Rattle.reg_names.specs.declared.endpoint.Endpoints.{Endpoints}
use Rattle.std.proofs.Common.{◌≡◌, ◌==◌, ℕ, zero, suc, ◌+◌, ◌-◌, ◌<◌, ◌≤◌, pos, Bool, true, false, cond, List, [], ◌∷◌, ◌++◌, map, length, take, get_or, not, Some, arith, refl, sym, ap, subst, ◌∙◌, None, Option}
use Rattle.reg_tables_represent.proofs.Common.{drop, enumerate_from, filter, flat_map, has_rowid, Int, IsPermutation, IsPermutation-cons, IsPermutation-map, IsPermutation-sym, IsPermutation-trans, Row, same_filter, State, Trees}
use Rattle.std.proofs.lemmas.List.{append-nil, append_assoc, map-append, length-take-le, take_all, take_more}
use Rattle.reg_tables_schema.specs.Changes.{Adds, AddsColumns, Replaces, Touches}
use Rattle.reg_model.specs.Registry.{Text, Token, with_id, change_at, change_place}
use Rattle.reg_tables_represent.specs.Patterns.{GivesPatterns, with_last}
use Rattle.reg_tables_represent.specs.Stands.{row_of_token, scope_of, scopes_of, StandTokens}
use Rattle.reg_tables_represent.proofs.Numbered.{enumerate_snoc, one_at, changed_at, change_none, none_at, more}
use Rattle.reg_tables_schema.proofs.Permutes.{put_permutes, put_replaces, one_row}
use Rattle.reg_tables_represent.proofs.Standing.{same_number, snoc_permutes, none_row}
use Rattle.reg_tables_represent.proofs.Stays.{same_tokens, same_scopes, tokens_stay, with_tokens}

-- a change that leaves the patterns leaves the scopes
module _ (f : Token → Token) (same : (t : Token) → (f t).patterns ≡ t.patterns) where
  scopes_from : (i n : ℕ) (ts : List Token) → flat_map scopes_of (enumerate_from n (change_place f i ts)) ≡ flat_map scopes_of (enumerate_from n ts)
  scopes_from i n [] = refl
  scopes_from zero n (t ∷ ts) = ap (λ ps. map (scope_of n) (enumerate_from 0 ps) ++ flat_map scopes_of (enumerate_from (n + 1) ts)) (same t)
  scopes_from (suc i) n (t ∷ ts) = ap (λ rs. scopes_of (n, t) ++ rs) (scopes_from i (n + 1) ts)

  pub scopes_stay : (id : ℕ) (ts : List Token) → flat_map scopes_of (enumerate_from 1 (change_at f id ts)) ≡ flat_map scopes_of (enumerate_from 1 ts)
  scopes_stay id ts = split (id == 0)
    where
      split : (b : Bool) → flat_map scopes_of (enumerate_from 1 (cond b ts (change_place f (id - 1) ts))) ≡ flat_map scopes_of (enumerate_from 1 ts)
      split true = refl
      split false = scopes_from (id - 1) 1 ts

module _ (tokens : List Token) (t : Token) (old new : State) (stands : StandTokens tokens old.now.trees) where
  -- the row of a token that is there, and what it makes of the tokens to put another in its place
  pub token_row_at : (id : ℕ) → with_id tokens id ≡ Some t → filter (has_rowid (pos id)) (old.now.trees 3) ≡ row_of_token (id, t) ∷ []
  token_row_at id found =
      one_row row_of_token (has_rowid (pos id)) (id, t) (enumerate_from 1 tokens) (old.now.trees 3) stands.rows (same_filter _ _ (λ e. same_number e.0 id) (enumerate_from 1 tokens) ∙ one_at id tokens t found)

  pub replaces_token : (id : ℕ) (f : Token → Token) → ((t : Token) → (f t).patterns ≡ t.patterns) → with_id tokens id ≡ Some t → Replaces 3 id (row_of_token (id, f t)) old new → StandTokens (change_at f id tokens) new.now.trees
  replaces_token id f same found replaced =
      let entries = enumerate_from 1 tokens in
      let put = put_replaces row_of_token (pos id) _ (id, f t) refl entries (old.now.trees 3) stands.rows in
      let others = same_filter (λ e. not (has_rowid (pos id) (row_of_token e))) (λ e. not (e.0 == id)) (λ e. ap not (same_number e.0 id)) entries in
      let moved = IsPermutation-map row_of_token _ _ (IsPermutation-sym _ _ (changed_at f id tokens t found)) in
      let here = same_scopes 3 old.now.trees new.now.trees replaced.others (λ e. cc) in
      record {
        rows = IsPermutation-trans _ (map row_of_token ((id, f t) ∷ filter (λ e. not (e.0 == id)) entries)) _ moved
            (subst (λ xs. IsPermutation (map row_of_token ((id, f t) ∷ xs)) (new.now.trees 3)) others (subst (IsPermutation (map row_of_token ((id, f t) ∷ filter (λ e. not (has_rowid (pos id) (row_of_token e))) entries))) (sym replaced.rows_are) put));
        scopes = subst (λ rs. IsPermutation rs (map (drop 1) (new.now.trees 5))) (sym (scopes_stay f same id tokens))
            (subst (λ (rs : List Row). IsPermutation (flat_map scopes_of entries) (map (drop 1) rs)) (sym here) stands.scopes);
      }

-- a token without patterns has no scopes
no_scopes : (n : ℕ) (ts : List Token) (t : Token) → t.patterns ≡ [] → flat_map scopes_of (enumerate_from n (ts ++ t ∷ [])) ≡ flat_map scopes_of (enumerate_from n ts)
no_scopes n [] t none = ap (λ ps. map (scope_of n) (enumerate_from 0 ps) ++ []) none
no_scopes n (u ∷ ts) t none = ap (λ rs. scopes_of (n, u) ++ rs) (no_scopes (n + 1) ts t none)

pub adds_token : (tokens : List Token) (t : Token) (old new : State) → StandTokens tokens old.now.trees → t.patterns ≡ [] → (id : ℕ) → id ≡ 1 + length tokens → Adds 3 (row_of_token (id, t)) old new → StandTokens (tokens ++ t ∷ []) new.now.trees
adds_token tokens t old new stands none id is adds =
    let e : ℕ × Token = (id, t) in
    let entries = enumerate_from 1 tokens in
    let listed : enumerate_from 1 (tokens ++ t ∷ []) ≡ entries ++ e ∷ [] = enumerate_snoc 1 tokens t ∙ ap (λ k. entries ++ (k, t) ∷ []) (sym is) in
    let more = IsPermutation-cons (row_of_token e) (map row_of_token entries) (old.now.trees 3) stands.rows in
    let put = put_permutes (row_of_token e) (old.now.trees 3) adds.fresh in
    let last = IsPermutation-map row_of_token (entries ++ e ∷ []) (e ∷ entries) (IsPermutation-sym _ _ (snoc_permutes entries e)) in
    let here = same_scopes 3 old.now.trees new.now.trees adds.becomes.others (λ e. cc) in
    record {
      rows = subst (λ xs. IsPermutation (map row_of_token xs) (new.now.trees 3)) (sym listed)
          (IsPermutation-trans _ (map row_of_token (e ∷ entries)) _ last (IsPermutation-trans _ (row_of_token e ∷ old.now.trees 3) _ more (subst (IsPermutation (row_of_token e ∷ old.now.trees 3)) (sym adds.becomes.rows_are) put)));
      scopes = subst (λ rs. IsPermutation rs (map (drop 1) (new.now.trees 5))) (sym (no_scopes 1 tokens t none))
          (subst (λ (rs : List Row). IsPermutation (flat_map scopes_of entries) (map (drop 1) rs)) (sym here) stands.scopes);
    }

same_end : (p : Text) (rs : List Row) (n m k j : ℕ) → n ≡ m → k ≡ j → rs ++ scope_of n (k, p) ∷ [] ≡ (rs ++ []) ++ scope_of m (j, p) ∷ []
same_end p rs n m k j e f = ap (λ zs. zs ++ scope_of n (k, p) ∷ []) (sym (append-nil rs)) ∙ ap (λ a. (rs ++ []) ++ scope_of a (k, p) ∷ []) e ∙ ap (λ b. (rs ++ []) ++ scope_of m (b, p) ∷ []) f

-- one pattern more makes no other rows of tokens, and one scope more
module _ (t : Token) (ps : List Text) (p : Text) where
  abbrev fewer : Token
  fewer = record t { patterns = ps }

  abbrev wider : Token
  wider = record t { patterns = ps ++ p ∷ [] }

  same_rows : (n : ℕ) (ts : List Token) → map row_of_token (enumerate_from n (ts ++ fewer ∷ [])) ≡ map row_of_token (enumerate_from n (ts ++ wider ∷ []))
  same_rows n [] = refl
  same_rows n (u ∷ ts) = ap (λ rs. row_of_token (n, u) ∷ rs) (same_rows (n + 1) ts)

  one_scope : (n : ℕ) (ts : List Token) → flat_map scopes_of (enumerate_from n (ts ++ wider ∷ [])) ≡ flat_map scopes_of (enumerate_from n (ts ++ fewer ∷ [])) ++ scope_of (n + length ts) (length ps, p) ∷ []
  one_scope n [] =
      append-nil (scopes_of (n, wider)) ∙ ap (map (scope_of n)) (enumerate_snoc 0 ps p) ∙ map-append (scope_of n) (enumerate_from 0 ps) ((0 + length ps, p) ∷ [])
      ∙ same_end p (scopes_of (n, fewer)) n (n + 0) (0 + length ps) (length ps) (omega arith) (omega arith)
  one_scope n (u ∷ ts) =
      let others = flat_map scopes_of (enumerate_from (n + 1) (ts ++ fewer ∷ [])) in
      ap (λ rs. scopes_of (n, u) ++ rs) (one_scope (n + 1) ts) ∙ sym (append_assoc (scopes_of (n, u)) others _)
      ∙ ap (λ k. (scopes_of (n, u) ++ others) ++ scope_of k (length ps, p) ∷ []) (more n (length ts))

  pub adds_scope : (ts : List Token) (old new : State) → StandTokens (ts ++ fewer ∷ []) old.now.trees → (id place : ℕ) → id ≡ 1 + length ts → place ≡ length ps → AddsColumns 5 (scope_of id (place, p)) old new → StandTokens (ts ++ wider ∷ []) new.now.trees
  adds_scope ts old new stands id place is at adds =
      let scope = scope_of id (place, p) in
      let before = flat_map scopes_of (enumerate_from 1 (ts ++ fewer ∷ [])) in
      let row : Row = Int adds.0 ∷ scope in
      let here = same_tokens 5 old.now.trees new.now.trees adds.1.becomes.others (λ e. cc) in
      let listed : flat_map scopes_of (enumerate_from 1 (ts ++ wider ∷ [])) ≡ before ++ scope ∷ [] = one_scope 1 ts ∙ ap (λ r. before ++ r ∷ []) (rw (is, at) refl) in
      let more = IsPermutation-cons scope before (map (drop 1) (old.now.trees 5)) stands.scopes in
      let put = IsPermutation-map (λ r. drop 1 r) _ _ (put_permutes row (old.now.trees 5) adds.1.fresh) in
      record {
        rows = subst (λ rs. IsPermutation rs (new.now.trees 3)) (same_rows 1 ts) (subst (λ (rs : List Row). IsPermutation (map row_of_token (enumerate_from 1 (ts ++ fewer ∷ []))) rs) (sym here) stands.rows);
        scopes = subst (λ rs. IsPermutation rs (map (drop 1) (new.now.trees 5))) (sym listed)
            (IsPermutation-trans _ (scope ∷ before) _ (IsPermutation-sym _ _ (snoc_permutes before scope))
            (IsPermutation-trans _ (scope ∷ map (drop 1) (old.now.trees 5)) _ more (subst (λ (rs : List Row). IsPermutation (scope ∷ map (drop 1) (old.now.trees 5)) (map (drop 1) rs)) (sym adds.1.becomes.rows_are) put)));
      }

pub gives_another : (id : ℕ) (ps : List Text) (p : Text) (place : ℕ) (first : Trees) (old new : State) → GivesPatterns id ps first old.now.trees → place ≡ length ps → AddsColumns 5 (scope_of id (place, p)) old new → GivesPatterns id (ps ++ p ∷ []) first new.now.trees
gives_another id ps p place first old new given at adds ids s others t is none stands =
    let before = given ids s others t is none stands in
    with_tokens ids (with_last s others (record t { patterns = ps })) old.now.trees new.now.trees before _ 5 (λ n _ apart. apart) adds.1.becomes.others (adds_scope t ps p others old new before.tokens id place is at adds)

-- the same, where the patterns are those of a list that stand before a place
pub gives_next : (id : ℕ) (ps : List Text) (place : ℕ) (p : Text) (first : Trees) (old new : State) → place < length ps → p ≡ get_or ps place p → GivesPatterns id (take place ps) first old.now.trees → AddsColumns 5 (scope_of id (place, p)) old new
    → GivesPatterns id (take (place + 1) ps) first new.now.trees
gives_next id ps place p first old new low is given adds =
    let longer : take (place + 1) ps ≡ take place ps ++ p ∷ [] = take_more ps place p low ∙ ap (λ x. take place ps ++ x ∷ []) (sym is) in
    let many : place ≡ length (take place ps) = sym (length-take-le place ps (omega (arith, low))) in
    subst (λ xs. GivesPatterns id xs first new.now.trees) (sym longer) (gives_another id (take place ps) p place first old new given many adds)

pub gives_all : (id : ℕ) (ps : List Text) (place : ℕ) (first last : Trees) → length ps ≤ place → GivesPatterns id (take place ps) first last → GivesPatterns id ps first last
gives_all id ps place first last high given = subst (λ xs. GivesPatterns id xs first last) (take_all place ps high) given

-- a token that is no longer live, where it is there
pub ends_token : (tokens : List Token) (old new : State) → StandTokens tokens old.now.trees → (id : ℕ) → ((digest : List ℕ) (account : ℕ) (was : Bool) (e : Endpoints) → filter (has_rowid (pos id)) (old.now.trees 3) ≡ token_row id digest account was e ∷ [] → Replaces 3 id (token_row id digest account false e) old new)
    → KeepsWhereNone 3 (has_rowid (pos id)) old new → Touches 3 old new → StandTokens (change_at (λ t. record t { live = false }) id tokens) new.now.trees
ends_token tokens old new stands id replaced unmatched touches = split (with_id tokens id) refl
  where
    split : (o : Option Token) → with_id tokens id ≡ o → StandTokens (change_at (λ t. record t { live = false }) id tokens) new.now.trees
    split None none =
        let rows = none_row row_of_token (has_rowid (pos id)) (enumerate_from 1 tokens) (old.now.trees 3) stands.rows (same_filter _ _ (λ e. same_number e.0 id) (enumerate_from 1 tokens) ∙ none_at id tokens none) in
        subst (λ ts. StandTokens ts new.now.trees) (sym (change_none (λ t. record t { live = false }) id tokens none))
        (tokens_stay tokens old.now.trees new.now.trees (unmatched rows) (same_scopes 3 old.now.trees new.now.trees touches.others (λ e. cc)) stands)
    split (Some t) found =
        let row = replaced t.digest t.account t.live t.endpoints (token_row_at tokens t old new stands id found) in
        replaces_token tokens t old new stands id (λ t. record t { live = false }) (λ t. refl) found row
