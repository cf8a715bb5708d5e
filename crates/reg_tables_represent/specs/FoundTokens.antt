-- A token that was found by its digest, as the registry has it.
use Rattle.std.specs.Prelude.{◌≡◌, ℕ, Bool, List, Option, Some, None, map, string_bytes}
use Rattle.std.specs.Option.{option_map}
use Rattle.std.specs.List.{enumerate_from, filter}
use Rattle.std.specs.Str.{bytes_eq}
use Rattle.reg_model.specs.Registry as model
use Rattle.reg_tables_sql.specs.declared.tokens.TokenRow.{TokenRow}
use Rattle.reg_tables_represent.specs.declared.tokens.TokenRows.{TokenRows}
use Rattle.reg_tables_sql.specs.Scopes.{columns_of_scope}
use Rattle.reg_tables_represent.specs.Stands.{scopes_of}

-- the tokens with this digest, each behind its id
abbrev pub with_digest : model.Registry → List ℕ → List (ℕ × model.Token)
with_digest s digest = filter (λ e. bytes_eq e.1.digest digest) (enumerate_from 1 s.tokens)

abbrev pub entry_of_row : List ℕ → List model.Text → TokenRow → ℕ × model.Token
entry_of_row digest patterns r = (
  r.id,
  record {
    digest = digest;
    account = r.account;
    live = r.live;
    endpoints = r.endpoints;
    patterns = patterns;
  },
)

abbrev pub login_and_mark : model.Account → List ℕ × Bool
login_and_mark a = (a.login, a.enabled)

abbrev pub login_and_mark_of_row : TokenRow → List ℕ × Bool
login_and_mark_of_row r = (string_bytes r.login, r.enabled)

-- the account has this login and this mark
abbrev pub IsAccountOf : model.Registry → TokenRow → Type 0
IsAccountOf s r = option_map login_and_mark (model.with_id s.accounts r.account) ≡ Some
    (login_and_mark_of_row r)

-- there is no such token, or it is this one, with these patterns
abbrev pub IsRow : model.Registry → List ℕ → Option TokenRow → Type 0
IsRow s digest None = model.token_of s digest ≡ None
IsRow s digest (Some r) = (patterns : List model.Text)
    × (model.token_of s digest ≡ Some (entry_of_row digest patterns r).1)
    × (model.with_id s.tokens r.id ≡ Some (entry_of_row digest patterns r).1) × IsAccountOf s r

-- and these are its scopes, by place
abbrev pub IsFound : model.Registry → List ℕ → Option TokenRows → Type 0
IsFound s digest None = model.token_of s digest ≡ None
IsFound s digest (Some r) = (patterns : List model.Text)
    × (model.token_of s digest ≡ Some (entry_of_row digest patterns r.token).1)
    × (model.with_id s.tokens r.token.id ≡ Some (entry_of_row digest patterns r.token).1)
    × IsAccountOf s r.token
    × (map columns_of_scope r.scopes.items ≡ scopes_of (entry_of_row digest patterns r.token))
