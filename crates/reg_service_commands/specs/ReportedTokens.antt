-- Tokens and their patterns, as lists of records tell them.
use Rattle.std.specs.Prelude.{◌≡◌, ℕ, ◌+◌, List, [], ◌∷◌, ◌++◌, map, unwrap_or, string_bytes}
use Rattle.std.specs.List.{enumerate_from, flat_map}
use Rattle.std.specs.Option.{option_map}
use Rattle.reg_model.specs.Registry as model
use Rattle.reg_model.specs.Registry.{Text, with_id}
use Rattle.reg_model.specs.Reports.{token_line}
use Rattle.reg_tables_sql.specs.Scopes.{columns_of_scope}
use Rattle.reg_tables_sql.specs.declared.accounts.Account.{Account}
use Rattle.reg_tables_sql.specs.declared.scopes.Scope.{Scope}
use Rattle.reg_tables_sql.specs.declared.tokens.Token.{Token}
use Rattle.reg_tables_represent.specs.Stands.{scopes_of}
use Rattle.reg_tables_represent.specs.TokenEntries.{entry_of_token, without_patterns}

-- the login of the account with this id, of these, which count from 1
abbrev pub login_among : List Account → ℕ → Text
login_among accounts id =
    unwrap_or (option_map (λ a. string_bytes a.login) (with_id accounts id)) []

abbrev pub pattern_of : Scope → Text
pattern_of s = string_bytes s.pattern

-- a token behind its id, with these patterns
abbrev pub with_patterns : List Text → Token → ℕ × model.Token
with_patterns patterns t =
    ((entry_of_token t).0, record (entry_of_token t).1 { patterns = patterns })

-- the line of a token, where these are the accounts
abbrev pub line_among : List Account → ℕ × model.Token → Text
line_among accounts e = token_line (login_among accounts e.1.account) e

-- these are the records of tokens whose ids count from here, and these are their scopes, by token
-- and place
pub record AreTokens (from : ℕ) (ts : List model.Token) (tokens : List Token)
    (scopes : List Scope) : Type 0 where
  pub each : map entry_of_token tokens ≡ map without_patterns (enumerate_from from ts)
  pub covered : map columns_of_scope scopes ≡ flat_map scopes_of (enumerate_from from ts)

-- the line of the first of some tokens comes behind a text, and the others have the other scopes
abbrev pub IsNext : List Account → Token → List Scope → List Scope → Text → Text → Type 0
IsNext accounts token scopes others old new =
    (from : ℕ) (t : model.Token) (ts : List model.Token) (more : List Token)
    → AreTokens from (t ∷ ts) (token ∷ more) scopes
    → AreTokens (from + 1) ts more others × (new ≡ old ++ line_among accounts (from, t))
