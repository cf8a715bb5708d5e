-- Scopes that are placed one behind another are those of the tokens, in turn.
use Rattle.reg_check_sound.proofs.Words.{◌≡◌, ◌≤◌, ◌<◌, ◌==◌, ◌+◌, inl, inr, arith, ℕ, zero, suc, List, [], ◌∷◌, ◌++◌, map, length, Bool}
use Rattle.reg_check_sound.proofs.Words.{true, refl, sym, ap, subst, eqb-true, ◌∙◌, enumerate_from, flat_map, list_all, and_parts, eq-eqb}
use Rattle.reg_check_sound.proofs.Words.{ne_eqb, length-map, is_pattern, range_of, columns_of_scope, scope_of, scopes_of, Scope, Token}
use Rattle.reg_check_sound.proofs.Words.{are_counted, are_placed, follow, is_scope, patterns_of, token_from}
use Rattle.std.proofs.Common.{◌⊎◌}
use Rattle.reg_check_sound.proofs.Common.{◌&&◌, ◌||◌, bytes_eq, Row, string_bytes}
use Rattle.std.proofs.lemmas.Bool.{or_cases}
use Rattle.std.proofs.lemmas.Slice.Eq.{bytes_eq-Decides}
use Rattle.sqlite_trees.proofs.ListLemmas.{flat_map-map, flat_map_none}
use Rattle.reg_check_sound.proofs.Shapes.{counted_are, counted_ids, upto}

-- the scope is the next after that of this token at this place
abbrev pub Next : ℕ → ℕ → Scope → Type 0
Next token place s = ((s.token ≡ token) × (s.place ≡ place + 1)) ⊎ ((s.token ≡ token + 1) × (s.place ≡ 0))

abbrev pub is_next : ℕ → ℕ → Scope → Bool
is_next token place s = (s.token == token && s.place == place + 1) || (s.token == token + 1 && s.place == 0)

pub next_of : (token place : ℕ) (s : Scope) → is_next token place s ≡ true → Next token place s
next_of token place s h = go (or_cases (s.token == token && s.place == place + 1) (s.token == token + 1 && s.place == 0) h)
  where
    go : ((s.token == token && s.place == place + 1) ≡ true) ⊎ ((s.token == token + 1 && s.place == 0) ≡ true) → Next token place s
    go (inl e) = let p = and_parts (s.token == token) (s.place == place + 1) e in inl (eqb-true s.token token p.0, eqb-true s.place (place + 1) p.1)
    go (inr e) = let p = and_parts (s.token == token + 1) (s.place == 0) e in inr (eqb-true s.token (token + 1) p.0, eqb-true s.place 0 p.1)

next_above : (token place : ℕ) (s : Scope) → Next token place s → token ≤ s.token
next_above token place s (inl e) = omega (arith, e.0)
next_above token place s (inr e) = omega (arith, e.0)

-- tokens only go up, to the last
pub follow_up : (last token place : ℕ) (rest : List Scope) → follow last token place rest ≡ true → token ≤ last
follow_up last token place [] h = omega (arith, eqb-true token last h)
follow_up last token place (s ∷ rest) h =
    let p = and_parts (is_next token place s) (follow last s.token s.place rest) h in
    omega (arith, next_above token place s (next_of token place s p.0), follow_up last s.token s.place rest p.1)

-- none of what follows is of a token before
none_before : (id last token place : ℕ) (rest : List Scope) → id < token → follow last token place rest ≡ true → patterns_of id rest ≡ []
none_before id last token place [] below h = refl
none_before id last token place (s ∷ rest) below h =
    let p = and_parts (is_next token place s) (follow last s.token s.place rest) h in
    let up = next_above token place s (next_of token place s p.0) in
    rw (ne_eqb s.token id (λ e. absurd (omega (arith, below, up, e)))) (none_before id last s.token s.place rest (omega (arith, below, up)) p.1)

-- the rows of one token's scopes
abbrev its_rows : List Scope → ℕ → List Row
its_rows scopes id = map (scope_of id) (enumerate_from 0 (patterns_of id scopes))

its_first : (s : Scope) (rest : List Scope) → patterns_of s.token (s ∷ rest) ≡ string_bytes s.pattern ∷ patterns_of s.token rest
its_first s rest = rw (eq-eqb s.token s.token refl) refl

not_its : (s : Scope) (rest : List Scope) (id : ℕ) → s.token < id → patterns_of id (s ∷ rest) ≡ patterns_of id rest
not_its s rest id above = rw (ne_eqb s.token id (λ e. absurd (omega (arith, above, e)))) refl

-- a scope is none of those of later tokens
others_same : (s : Scope) (rest : List Scope) (k n : ℕ) → s.token < k → flat_map (its_rows (s ∷ rest)) (upto k n) ≡ flat_map (its_rows rest) (upto k n)
others_same s rest k zero above = refl
others_same s rest k (suc n) above = λ i. map (scope_of k) (enumerate_from 0 (not_its s rest k above i)) ++ others_same s rest (k + 1) n (omega (arith, above)) i

-- a scope that passes is that of its pattern
is_its_row : (s : Scope) → is_scope s ≡ true → columns_of_scope s ≡ scope_of s.token (s.place, string_bytes s.pattern)
is_its_row s h =
    let text = string_bytes s.pattern in
    let range = range_of text in
    let p = and_parts (is_pattern text) (bytes_eq (string_bytes s.low) range.low && bytes_eq (string_bytes s.high) range.high) h in
    let q = and_parts (bytes_eq (string_bytes s.low) range.low) (bytes_eq (string_bytes s.high) range.high) p.1 in
    let low = (bytes_eq-Decides (string_bytes s.low) range.low).0 q.0 in
    let high = (bytes_eq-Decides (string_bytes s.high) range.high).0 q.1 in
    rw (low, high) refl

-- what is left of a token from a place on, and all of the n tokens after it
abbrev Left : ℕ → ℕ → ℕ → List Scope → List Scope → Type 0
Left n token place all scopes = map columns_of_scope scopes ≡ map (scope_of token) (enumerate_from place (patterns_of token all)) ++ flat_map (its_rows all) (upto (token + 1) n)

first_of_it : (n : ℕ) (s : Scope) (rest : List Scope) → is_scope s ≡ true → Left n s.token (s.place + 1) rest rest → Left n s.token s.place (s ∷ rest) (s ∷ rest)
first_of_it n s rest passes left =
    let later = sym (others_same s rest (s.token + 1) n (omega arith)) in
    let mine = sym (its_first s rest) in
    (λ i. is_its_row s passes i ∷ left i) ∙ (λ i. map (scope_of s.token) (enumerate_from s.place (mine i)) ++ later i)

walk : (n last token place : ℕ) (rest : List Scope) → token + n ≡ last → follow last token place rest ≡ true → list_all is_scope rest ≡ true → Left n token (place + 1) rest rest
walk n last token place [] total h pass = sym (flat_map_none (its_rows []) (λ id. refl) (upto (token + 1) n))
walk n last token place (s ∷ rest) total h pass =
    let p = and_parts (is_next token place s) (follow last s.token s.place rest) h in
    let q = and_parts (is_scope s) (list_all is_scope rest) pass in
    go n total p.1 q.0 (λ m e. walk m last s.token s.place rest e p.1 q.1) (next_of token place s p.0)
  where
    go : (n : ℕ) → token + n ≡ last → follow last s.token s.place rest ≡ true → is_scope s ≡ true → ((m : ℕ) → s.token + m ≡ last → Left m s.token (s.place + 1) rest rest) → Next token place s → Left n token (place + 1) (s ∷ rest) (s ∷ rest)
    go n total after passes left (inl e) =
        let here = first_of_it n s rest passes (left n (ap (λ t. t + n) e.0 ∙ total)) in
        subst (λ k. Left n token k (s ∷ rest) (s ∷ rest)) e.1 (subst (λ t. Left n t s.place (s ∷ rest) (s ∷ rest)) e.0 here)
    go zero total after passes left (inr e) = absurd (omega (arith, total, e.0, follow_up last s.token s.place rest after))
    go (suc m) total after passes left (inr e) =
        let here = first_of_it m s rest passes (left m (omega (arith, total, e.0))) in
        let moved = subst (λ k. Left m (token + 1) k (s ∷ rest) (s ∷ rest)) e.1 (subst (λ t. Left m t s.place (s ∷ rest) (s ∷ rest)) e.0 here) in
        let none : patterns_of token (s ∷ rest) ≡ [] = rw (ne_eqb s.token token (λ f. absurd (omega (arith, f, e.0)))) (none_before token last s.token s.place rest (omega (arith, e.0)) after) in
        moved ∙ (λ i. map (scope_of token) (enumerate_from (place + 1) (sym none i)) ++ flat_map (its_rows (s ∷ rest)) (upto (token + 1) (suc m)))

-- all scopes are those of the tokens 1 to the last
placed : (last : ℕ) (scopes : List Scope) → are_placed last scopes ≡ true → list_all is_scope scopes ≡ true → map columns_of_scope scopes ≡ flat_map (its_rows scopes) (upto 1 last)
placed last [] h pass = sym (flat_map_none (its_rows []) (λ id. refl) (upto 1 last))
placed last (s ∷ rest) h pass =
    let p = and_parts (s.token == 1 && s.place == 0) (follow last s.token s.place rest) h in
    let q = and_parts (s.token == 1) (s.place == 0) p.0 in
    let r = and_parts (is_scope s) (list_all is_scope rest) pass in
    go last p.1 (eqb-true s.token 1 q.0) (eqb-true s.place 0 q.1) r
  where
    go : (last : ℕ) → follow last s.token s.place rest ≡ true → s.token ≡ 1 → s.place ≡ 0 → (is_scope s ≡ true) × (list_all is_scope rest ≡ true) → map columns_of_scope (s ∷ rest) ≡ flat_map (its_rows (s ∷ rest)) (upto 1 last)
    go zero after at first r = absurd (omega (arith, at, follow_up zero s.token s.place rest after))
    go (suc m) after at first r =
        let here = first_of_it m s rest r.0 (walk m (suc m) s.token s.place rest (omega (arith, at)) after r.1) in
        subst (λ k. Left m 1 k (s ∷ rest) (s ∷ rest)) first (subst (λ t. Left m t s.place (s ∷ rest) (s ∷ rest)) at here)

-- the rows of the scopes are those of the tokens
pub scopes_are : (tokens : List Token) (scopes : List Scope) → are_counted 1 (map (λ t. t.id) tokens) ≡ true → are_placed (length tokens) scopes ≡ true → list_all is_scope scopes ≡ true
    → map columns_of_scope scopes ≡ flat_map scopes_of (enumerate_from 1 (map (token_from scopes) tokens))
scopes_are tokens scopes counted at pass =
    let ids : List ℕ = map (λ t. t.id) tokens in
    let numbers : upto 1 (length tokens) ≡ ids = ap (upto 1) (sym (length-map tokens (λ (t : Token). t.id))) ∙ sym (counted_ids 1 ids counted) in
    placed (length tokens) scopes at pass ∙ ap (flat_map (its_rows scopes)) numbers ∙ flat_map-map (its_rows scopes) (λ t. t.id) tokens
    ∙ sym (flat_map-map scopes_of (λ t. (t.id, token_from scopes t)) tokens) ∙ ap (flat_map scopes_of) (counted_are (λ t. t.id) (token_from scopes) 1 tokens counted)
