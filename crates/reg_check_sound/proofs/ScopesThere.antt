-- Scopes that are placed: each token has one, and each pattern is one.
use Rattle.reg_check_sound.proofs.Words.{string_bytes, ◌&&◌, ◌||◌, filter, cond, nat_lt, and_parts, and_from, eq-eqb, is_pattern, range_of}
use Rattle.reg_check_sound.proofs.Words.{or_left, or_right, Scope, are_placed, follow, is_scope, patterns_of}
use Rattle.reg_check_sound.proofs.Common.{◌≡◌, ◌==◌, ◌+◌, [], ◌∷◌, ◌∙◌, all_weaker, AllByRecursion, ap, arith, Bool, bytes_eq, eqb-true, false, inl, inr, length, List, list_all, list_any, map, refl, subst, suc, true, zero, ℕ}
use Rattle.std.proofs.lemmas.Bool.{lt-ltb}
use Rattle.reg_check_sound.proofs.ScopeWalk.{Next, is_next, next_of}
use Rattle.reg_check_sound.proofs.Shapes.{upto}

abbrev pub Has : List Scope → ℕ → Type 0
Has scopes id = list_any (λ s. s.token == id) scopes ≡ true

more_have : (s : Scope) (rest : List Scope) (id : ℕ) → Has rest id → Has (s ∷ rest) id
more_have s rest id h = or_right (s.token == id) (list_any (λ s. s.token == id) rest) h

first_has : (s : Scope) (rest : List Scope) (id : ℕ) → s.token ≡ id → Has (s ∷ rest) id
first_has s rest id h = or_left (s.token == id) (list_any (λ s. s.token == id) rest) (eq-eqb s.token id h)

left_have : (n last token place : ℕ) (rest : List Scope) → token + n ≡ last → follow last token place rest ≡ true → AllByRecursion (Has rest) (upto (token + 1) n)
left_have zero last token place [] total h = tt
left_have (suc n) last token place [] total h = absurd (omega (arith, total, eqb-true token last h))
left_have n last token place (s ∷ rest) total h =
    let p = and_parts (is_next token place s) (follow last s.token s.place rest) h in
    go n total p.1 (λ m e. left_have m last s.token s.place rest e p.1) (next_of token place s p.0)
  where
    go : (n : ℕ) → token + n ≡ last → follow last s.token s.place rest ≡ true → ((m : ℕ) → s.token + m ≡ last → AllByRecursion (Has rest) (upto (s.token + 1) m)) → Next token place s → AllByRecursion (Has (s ∷ rest)) (upto (token + 1) n)
    go n total after have (inl e) = all_weaker (Has rest) (Has (s ∷ rest)) (more_have s rest) (upto (token + 1) n) (subst (λ t. AllByRecursion (Has rest) (upto (t + 1) n)) e.0 (have n (ap (λ t. t + n) e.0 ∙ total)))
    go zero total after have (inr e) = tt
    go (suc m) total after have (inr e) =
        (first_has s rest (token + 1) e.0, all_weaker (Has rest) (Has (s ∷ rest)) (more_have s rest) (upto (token + 1 + 1) m) (subst (λ t. AllByRecursion (Has rest) (upto (t + 1) m)) e.0 (have m (omega (arith, total, e.0)))))

pub all_have : (last : ℕ) (scopes : List Scope) → are_placed last scopes ≡ true → AllByRecursion (Has scopes) (upto 1 last)
all_have zero scopes h = tt
all_have (suc m) [] h = absurd (omega (arith, eqb-true (suc m) 0 h))
all_have (suc m) (s ∷ rest) h =
    let p = and_parts (s.token == 1 && s.place == 0) (follow (suc m) s.token s.place rest) h in
    let q = and_parts (s.token == 1) (s.place == 0) p.0 in
    let at = eqb-true s.token 1 q.0 in
    (first_has s rest 1 at, all_weaker (Has rest) (Has (s ∷ rest)) (more_have s rest) (upto (1 + 1) m) (subst (λ t. AllByRecursion (Has rest) (upto (t + 1) m)) at (left_have m (suc m) s.token s.place rest (omega (arith, at)) p.1)))

pub some_pattern : (id : ℕ) (scopes : List Scope) → Has scopes id → nat_lt 0 (length (patterns_of id scopes)) ≡ true
some_pattern id [] h = absurd cc
some_pattern id (s ∷ rest) h = go (s.token == id) h (some_pattern id rest)
  where
    go : (b : Bool) → (b || list_any (λ s. s.token == id) rest) ≡ true → (Has rest id → nat_lt 0 (length (patterns_of id rest)) ≡ true) → nat_lt 0 (length (map (λ s. string_bytes s.pattern) (cond b (s ∷ filter (λ s. s.token == id) rest) (filter (λ s. s.token == id) rest)))) ≡ true
    go true e later = lt-ltb 0 _ (omega arith)
    go false e later = later e

pub all_patterns : (id : ℕ) (scopes : List Scope) → list_all is_scope scopes ≡ true → list_all is_pattern (patterns_of id scopes) ≡ true
all_patterns id [] h = refl
all_patterns id (s ∷ rest) h =
    let p = and_parts (is_scope s) (list_all is_scope rest) h in
    let text = string_bytes s.pattern in
    let one = and_parts (is_pattern text) (bytes_eq (string_bytes s.low) (range_of text).low && bytes_eq (string_bytes s.high) (range_of text).high) p.0 in
    go (s.token == id) one.0 (all_patterns id rest p.1)
  where
    go : (b : Bool) → is_pattern (string_bytes s.pattern) ≡ true → list_all is_pattern (patterns_of id rest) ≡ true → list_all is_pattern (map (λ s. string_bytes s.pattern) (cond b (s ∷ filter (λ s. s.token == id) rest) (filter (λ s. s.token == id) rest))) ≡ true
    go true e later = and_from (is_pattern (string_bytes s.pattern)) _ e later
    go false e later = later
