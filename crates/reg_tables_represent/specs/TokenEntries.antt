-- What the records of tokens stand for in the registry.
use Rattle.std.specs.Prelude.{ℕ, []}
use Rattle.reg_model.specs.Registry as model
use Rattle.reg_tables_sql.specs.declared.tokens.Token.{Token}

-- a token behind its id, without its patterns, which are told as scopes
abbrev pub without_patterns : ℕ × model.Token → ℕ × model.Token
without_patterns e = (e.0, record e.1 { patterns = [] })

abbrev pub entry_of_token : Token → ℕ × model.Token
entry_of_token t = (
  t.id,
  record {
    digest = t.digest.items;
    account = t.account;
    live = t.live;
    endpoints = t.endpoints;
    patterns = [];
  },
)
