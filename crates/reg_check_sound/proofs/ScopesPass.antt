-- The scopes of tokens that stand for those of a sound registry are placed, and have their ranges.
use Rattle.reg_check_sound.proofs.Words.{◌≡◌, ◌==◌, ◌+◌, arith, ℕ, suc, List, [], ◌∷◌, ◌++◌, map, length, Bool, true, refl, sym, ap, subst}
use Rattle.reg_check_sound.proofs.Words.{◌∙◌, ◌&&◌, ◌||◌, nat_lt, string_bytes, enumerate_from, flat_map, list_all, and_parts, and_from}
use Rattle.reg_check_sound.proofs.Words.{eq-eqb, is_pattern, range_of, columns_of_scope, scope_of, scopes_of, Scope, same_head, same_tail}
use Rattle.reg_check_sound.proofs.Words.{follow, are_placed, is_scope}
use Rattle.std.proofs.lemmas.Bool.{eqb-true, or_left, or_right}
use Rattle.reg_check_sound.proofs.Common.{bytes_same, heads, number_is, Row, tails, words_are}
use Rattle.reg_model.specs.Registry as model

pub record IsAt (s : Scope) (n k : ℕ) (p : model.Text) : Type 0 where
  pub token : s.token ≡ n
  pub place : s.place ≡ k
  pub pattern : string_bytes s.pattern ≡ p
  pub low : string_bytes s.low ≡ (range_of p).low
  pub high : string_bytes s.high ≡ (range_of p).high

scope_is : (s : Scope) (n k : ℕ) (p : model.Text) → columns_of_scope s ≡ scope_of n (k, p) → IsAt s n k p
scope_is s n k p h = record {
  token = number_is (heads h);
  place = number_is (heads (tails h));
  pattern = words_are (heads (tails (tails h)));
  low = words_are (heads (tails (tails (tails h))));
  high = words_are (heads (tails (tails (tails (tails h)))));
}

passes : (s : Scope) (n k : ℕ) (p : model.Text) → IsAt s n k p → is_pattern p ≡ true → is_scope s ≡ true
passes s n k p at h =
    and_from _ _ (ap is_pattern at.pattern ∙ h) (and_from _ _
    (bytes_same (string_bytes s.low) _ (at.low ∙ ap (λ t. (range_of t).low) (sym at.pattern)))
    (bytes_same (string_bytes s.high) _ (at.high ∙ ap (λ t. (range_of t).high) (sym at.pattern))))

-- whether a token has patterns, and each is one
abbrev pub has_patterns : model.Token → Bool
has_patterns t = nat_lt 0 (length t.patterns) && list_all is_pattern t.patterns

abbrev Good : ℕ → ℕ → ℕ → List Scope → Type 0
Good last token place scopes = (follow last token place scopes ≡ true) × (list_all is_scope scopes ≡ true)

abbrev Rest : ℕ → ℕ → List model.Text → List model.Token → List Row
Rest token place ps ts = map (scope_of token) (enumerate_from place ps) ++ flat_map scopes_of (enumerate_from (token + 1) ts)

-- the next token, by its patterns
next : (last token place : ℕ) (s : Scope) (rest : List Scope) (qs : List model.Text) (ts : List model.Token) → token + suc (length ts) ≡ last → nat_lt 0 (length qs) ≡ true → list_all is_pattern qs ≡ true → list_all has_patterns ts ≡ true
    → map columns_of_scope (s ∷ rest) ≡ Rest (token + 1) 0 qs ts → ((ps : List model.Text) → (token + 1) + length ts ≡ last → list_all is_pattern ps ≡ true → map columns_of_scope rest ≡ Rest (token + 1) 1 ps ts → Good last (token + 1) 0 rest) → Good last token place (s ∷ rest)
next last token place s rest [] ts total some pats more h later = absurd cc
next last token place s rest (q ∷ qs) ts total some pats more h later =
    let at = scope_is s (token + 1) 0 q (same_head h) in
    let p = and_parts (is_pattern q) (list_all is_pattern qs) pats in
    let r = later qs (omega (arith, total)) p.1 (same_tail h) in (
      and_from _ _ (or_right (s.token == token && s.place == place + 1) (s.token == token + 1 && s.place == 0) (and_from _ _ (eq-eqb s.token (token + 1) at.token) (eq-eqb s.place 0 at.place)))
          (subst (λ t. follow last t s.place rest ≡ true) (sym at.token) (subst (λ k. follow last (token + 1) k rest ≡ true) (sym at.place) r.0)),
      and_from _ _ (passes s (token + 1) 0 q at p.0) r.1,
    )

walk : (last token place : ℕ) (scopes : List Scope) (ps : List model.Text) (ts : List model.Token) → token + length ts ≡ last → list_all is_pattern ps ≡ true → list_all has_patterns ts ≡ true
    → map columns_of_scope scopes ≡ Rest token (place + 1) ps ts → Good last token place scopes
walk last token place [] [] [] total pats more h = (eq-eqb token last (omega (arith, total)), refl)
walk last token place [] (p ∷ ps) ts total pats more h = absurd cc
walk last token place [] [] (t ∷ ts) total pats more h = none t.patterns (and_parts (has_patterns t) (list_all has_patterns ts) more).0 h
  where
    none : (qs : List model.Text) → (nat_lt 0 (length qs) && list_all is_pattern qs) ≡ true → [] ≡ Rest (token + 1) 0 qs ts → Good last token place []
    none [] e f = absurd cc
    none (q ∷ qs) e f = absurd cc
walk last token place (s ∷ rest) [] [] total pats more h = absurd cc
walk last token place (s ∷ rest) (p ∷ ps) ts total pats more h =
    let at = scope_is s token (place + 1) p (same_head h) in
    let c = and_parts (is_pattern p) (list_all is_pattern ps) pats in
    let r = walk last token (place + 1) rest ps ts total c.1 more (same_tail h) in (
      and_from _ _ (or_left (s.token == token && s.place == place + 1) (s.token == token + 1 && s.place == 0) (and_from _ _ (eq-eqb s.token token at.token) (eq-eqb s.place (place + 1) at.place)))
          (subst (λ t. follow last t s.place rest ≡ true) (sym at.token) (subst (λ k. follow last token k rest ≡ true) (sym at.place) r.0)),
      and_from _ _ (passes s token (place + 1) p at c.0) r.1,
    )
walk last token place (s ∷ rest) [] (t ∷ ts) total pats more h =
    let c = and_parts (has_patterns t) (list_all has_patterns ts) more in
    let d = and_parts (nat_lt 0 (length t.patterns)) (list_all is_pattern t.patterns) c.0 in
    next last token place s rest t.patterns ts total d.0 d.1 c.1 h (λ qs e f g. walk last (token + 1) 0 rest qs ts e f c.1 g)

pub placed : (last : ℕ) (scopes : List Scope) (ts : List model.Token) → length ts ≡ last → list_all has_patterns ts ≡ true → map columns_of_scope scopes ≡ flat_map scopes_of (enumerate_from 1 ts) → (are_placed last scopes ≡ true) × (list_all is_scope scopes ≡ true)
placed last [] ts total more h = let g = walk last 0 0 [] [] ts (omega (arith, total)) refl more h in (eq-eqb last 0 (sym (eqb-true 0 last g.0)), refl)
placed last (s ∷ rest) [] total more h = absurd cc
placed last (s ∷ rest) (t ∷ ts) total more h =
    let g = walk last 0 0 (s ∷ rest) [] (t ∷ ts) (omega (arith, total)) refl more h in
    let p = and_parts ((s.token == 0 && s.place == 1) || (s.token == 1 && s.place == 0)) (follow last s.token s.place rest) g.0 in
    let c = and_parts (has_patterns t) (list_all has_patterns ts) more in
    (and_from _ _ (at_first t.patterns (and_parts (nat_lt 0 (length t.patterns)) (list_all is_pattern t.patterns) c.0).0 h) p.1, g.1)
  where
    at_first : (qs : List model.Text) → nat_lt 0 (length qs) ≡ true → map columns_of_scope (s ∷ rest) ≡ map (scope_of 1) (enumerate_from 0 qs) ++ flat_map scopes_of (enumerate_from (1 + 1) ts) → (s.token == 1 && s.place == 0) ≡ true
    at_first [] e f = absurd cc
    at_first (q ∷ qs) e f = let at = scope_is s 1 0 q (same_head f) in and_from _ _ (eq-eqb s.token 1 at.token) (eq-eqb s.place 0 at.place)
