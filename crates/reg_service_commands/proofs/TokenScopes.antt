-- The scopes of a token stand in front of those of the tokens behind it.
use Rattle.reg_service_commands.proofs.Words.{◌≡◌, ◌==◌, ℕ, suc, ◌+◌, ◌<◌, List, [], ◌∷◌, ◌++◌, map, take, drop, false, refl, sym, ap, ◌∙◌}
use Rattle.reg_service_commands.proofs.Words.{arith, string_bytes, enumerate_from, flat_map, ne_eqb, Text, token_line, Account, Scope}
use Rattle.reg_service_commands.proofs.Words.{Token, AreTokens, line_among, login_among, pattern_of, with_patterns}
use Rattle.std.specs.List.{prefix_len}
use Rattle.std.proofs.lemmas.Bool.{eq-eqb}
use Rattle.sqlite.specs.Order.{Row}
use Rattle.reg_model.specs.Registry as model
use Rattle.reg_tables_sql.specs.Scopes.{columns_of_scope}
use Rattle.reg_tables_represent.specs.Stands.{scope_of, scopes_of}
use Rattle.reg_tables_represent.specs.TokenEntries.{entry_of_token, without_patterns}
use Rattle.reg_tables_represent.proofs.AccountEntries.{heads, number_is, tails, words_are}

front : {X : Type 0} {x y : X} {xs ys : List X} → ◌≡◌ {A = List X} (x ∷ xs) (y ∷ ys) → x ≡ y
front e = cc

behind : {X : Type 0} {x y : X} {xs ys : List X} → ◌≡◌ {A = List X} (x ∷ xs) (y ∷ ys) → xs ≡ ys
behind e = cc

abbrev count : ℕ → List Scope → ℕ
count id scopes = prefix_len (λ s. s.token == id) scopes

-- where none of the others begins with a scope of this token
its_scopes : (id n : ℕ) (ps : List Text) (others : List Row) (scopes : List Scope) → ((s : Scope) (rest : List Row) → others ≡ columns_of_scope s ∷ rest → (s.token == id) ≡ false) → map columns_of_scope scopes ≡ map (scope_of id) (enumerate_from n ps) ++ others
    → (map pattern_of (take (count id scopes) scopes) ≡ ps) × (map columns_of_scope (drop (count id scopes) scopes) ≡ others)
its_scopes id n [] others [] none h = (refl, h)
its_scopes id n [] others (s ∷ ss) none h = rw (none s (map columns_of_scope ss) (sym h)) (refl, h)
its_scopes id n (p ∷ ps) others [] none h = absurd cc
its_scopes id n (p ∷ ps) others (s ∷ ss) none h =
    let token : s.token ≡ id = number_is (heads (front h)) in
    let word : string_bytes s.pattern ≡ p = words_are (heads (tails (tails (front h)))) in
    let rest = its_scopes id (n + 1) ps others ss none (behind h) in
    let one : 1 + count id ss ≡ suc (count id ss) = omega arith in
    rw (eq-eqb s.token id token, one) ((λ i. word i ∷ rest.0 i), rest.1)

-- the tokens behind it have later ids
later : (id from : ℕ) (ts : List model.Token) → id < from → (s : Scope) (rest : List Row) → flat_map scopes_of (enumerate_from from ts) ≡ columns_of_scope s ∷ rest → (s.token == id) ≡ false
later id from [] lt s rest h = absurd cc
later id from (t ∷ ts) lt s rest h = by t.patterns h (later id (from + 1) ts (omega (arith, lt)) s rest)
  where
    by : (ps : List Text) → map (scope_of from) (enumerate_from 0 ps) ++ flat_map scopes_of (enumerate_from (from + 1) ts) ≡ columns_of_scope s ∷ rest → (flat_map scopes_of (enumerate_from (from + 1) ts) ≡ columns_of_scope s ∷ rest → (s.token == id) ≡ false) → (s.token == id) ≡ false
    by [] e deep = deep e
    by (p ∷ ps) e deep = let token : from ≡ s.token = number_is (heads (front e)) in ne_eqb s.token id (λ is. absurd (omega (arith, token, is, lt)))

pub next_token : (accounts : List Account) (from : ℕ) (t : model.Token) (ts : List model.Token) (token : Token) (more : List Token) (scopes : List Scope) (n : ℕ) → n ≡ prefix_len (λ s. s.token == token.id) scopes → AreTokens from (t ∷ ts) (token ∷ more) scopes
    → AreTokens (from + 1) ts more (drop n scopes) × (token_line (login_among accounts token.account) (with_patterns (map pattern_of (take n scopes)) token) ≡ line_among accounts (from, t))
next_token accounts from t ts token more scopes n counted are =
    let entry : entry_of_token token ≡ without_patterns (from, t) = front are.each in
    let at : n ≡ count from scopes = counted ∙ ap (λ e. count e.0 scopes) entry in
    let its = its_scopes from 0 t.patterns (flat_map scopes_of (enumerate_from (from + 1) ts)) scopes (later from (from + 1) ts (omega arith)) are.covered in
    let patterns : map pattern_of (take n scopes) ≡ t.patterns = ap (λ k. map pattern_of (take k scopes)) at ∙ its.0 in (
      record { each = behind are.each; covered = ap (λ k. map columns_of_scope (drop k scopes)) at ∙ its.1 },
      λ i. token_line (login_among accounts (entry i).1.account) ((entry i).0, record (entry i).1 { patterns = patterns i }),
    )
