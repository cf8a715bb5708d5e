-- The table of tokens, alone and with their accounts.
use Rattle.std.specs.Prelude.{◌≡◌, ℕ, pos, Bool, false, List, [], ◌∷◌, ◌++◌, Option, map, filter, string_bytes}
use Rattle.std.specs.List.{flat_map}
use Rattle.sqlite.specs.State.{State}
use Rattle.sqlite.specs.Tree.{Trees}
use Rattle.sqlite.specs.Order.{Row, column}
use Rattle.sqlite.specs.declared.types.Value.TheVariants.{Int, Text, Blob}
use Rattle.sqlite.specs.Collation.TheVariants.{Binary}
use Rattle.sqlite_schema.specs.Rules.{equal}
use Rattle.sqlite_trees.specs.Tree.{has_rowid}
use Rattle.reg_names.specs.declared.endpoint.Endpoints.{Endpoints}
use Rattle.reg_tables_schema.specs.Changes.{Replaces, Touches}
use Rattle.reg_tables_schema.specs.Places.{accounts_tree, digest_place, id_place, token_account_place, tokens_tree}
use Rattle.reg_tables_schema.specs.Rows.{IsInOrder, by_column, keyed, sql_bool}
use Rattle.reg_tables_schema.specs.Shown.{shown_of}
use Rattle.reg_tables_schema.specs.Tests.{is_blob, is_number, shows}
use Rattle.reg_tables_sql.specs.declared.tokens.Token.{Token}
use Rattle.reg_tables_sql.specs.declared.tokens.TokenRow.{TokenRow}
use Rattle.reg_tables_sql.specs.Updates.{KeepsWhereNone}

-- the marks of the four endpoints
abbrev pub endpoint_marks : Endpoints → Row
endpoint_marks e = sql_bool e.publish_new ∷ sql_bool e.publish_update ∷ sql_bool e.yank
    ∷ sql_bool e.change_owners
    ∷ []

-- a row as it stands in its tree
abbrev pub token_row : ℕ → List ℕ → ℕ → Bool → Endpoints → Row
token_row id digest account live e =
    keyed id (Blob digest ∷ Int (pos account) ∷ sql_bool live ∷ endpoint_marks e)

-- the id, the digest, the account, the mark and the endpoints, as they are selected
abbrev pub token_places : List ℕ
token_places = 0 ∷ 2 ∷ 3 ∷ 4 ∷ 5 ∷ 6 ∷ 7 ∷ 8 ∷ []

abbrev pub columns_of_token : Token → Row
columns_of_token it =
    Int (pos it.id) ∷ Blob it.digest.items ∷ Int (pos it.account) ∷ sql_bool it.live
    ∷ endpoint_marks it.endpoints

-- these are the tokens, by id
abbrev pub AreTokens : Trees → List Token → Type 0
AreTokens db list =
    IsInOrder (by_column id_place) (db tokens_tree) (shows token_places) (map columns_of_token list)

-- this is the token with the id, if there is one
abbrev pub IsTokenWithId : ℕ → Trees → Option Token → Type 0
IsTokenWithId id db found =
    map (shows token_places) (filter (is_number id_place id) (db tokens_tree))
    ≡ shown_of columns_of_token found

-- a token without its digest, with the login and the mark of its account
abbrev pub columns_with_account : TokenRow → Row
columns_with_account it =
    Int (pos it.id) ∷ Int (pos it.account) ∷ sql_bool it.live
    ∷ sql_bool it.endpoints.publish_new ∷ sql_bool it.endpoints.publish_update
    ∷ sql_bool it.endpoints.yank ∷ sql_bool it.endpoints.change_owners
    ∷ Text (string_bytes it.login) ∷ sql_bool it.enabled ∷ []

-- the account is that of the token, as SQL compares values
abbrev pub is_of_token : Row → Row → Bool
is_of_token token account = equal Binary (column account 0) (column token token_account_place)

-- the id, account, mark and endpoints of a token, and the login and mark of its account
abbrev pub token_and_account : Row → Row → Row
token_and_account token account =
    shows (0 ∷ 3 ∷ 4 ∷ 5 ∷ 6 ∷ 7 ∷ 8 ∷ []) token ++ shows (2 ∷ 4 ∷ []) account

-- this of each token with the digest
abbrev pub tokens_with_accounts : List ℕ → Trees → List Row
tokens_with_accounts digest db =
    flat_map (λ token. map (token_and_account token)
    (filter (is_of_token token) (db accounts_tree)))
    (filter (is_blob digest_place digest) (db tokens_tree))

-- this is the token with the digest, if there is one
abbrev pub IsTokenOfDigest : List ℕ → Trees → Option TokenRow → Type 0
IsTokenOfDigest digest db found = tokens_with_accounts digest db
    ≡ shown_of columns_with_account found

-- the token with this id is no longer live, where there is one, and no other table is touched
pub record Revokes (id : ℕ) (old new : State) : Type 0 where
  pub replaced : (digest : List ℕ) (account : ℕ) (was : Bool) (e : Endpoints)
      → filter (has_rowid (pos id)) (old.now.trees tokens_tree) ≡ token_row id digest account was e
      ∷ []
      → Replaces tokens_tree id (token_row id digest account false e) old new
  pub unmatched : KeepsWhereNone tokens_tree (has_rowid (pos id)) old new
  pub touches : Touches tokens_tree old new
