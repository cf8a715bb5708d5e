-- Who may act on a crate, as the program tells it.
use Rattle.std.specs.Prelude.{◌≡◌, ◌&&◌, ◌||◌, ◌==◌, ℕ, pos, Bool, true, not, is_some, List, [], ◌∷◌, map, Option, None, Some, unwrap_or, string_bytes}
use Rattle.std.specs.FinSet as finset
use Rattle.std.specs.List.{enumerate_from, filter, flat_map, list_any}
use Rattle.std.specs.Option.{option_map}
use Rattle.sqlite.specs.Order.{Row}
use Rattle.sqlite.specs.Tree.{Trees}
use Rattle.sqlite.specs.declared.types.Value.TheVariants.{Int, Text}
use Rattle.reg_names.specs.Names.{canon, is_name}
use Rattle.reg_names.specs.Patterns.{covers}
use Rattle.reg_names.specs.declared.endpoint.Endpoint.{Endpoint}
use Rattle.reg_names.specs.declared.endpoint.Endpoint.TheVariants as endpoint
use Rattle.reg_model.specs.Crates.{exists, is_reserved, is_reserved_always}
use Rattle.reg_model.specs.Grants.{all_endpoints, grants, is_granted, who_reads}
use Rattle.reg_model.specs.Registry.{Registry, Text as Words, Token, is_enabled, with_id}
use Rattle.reg_model.specs.Rules.{has_endpoint}
use Rattle.reg_tables_schema.specs.Rows.{sql_bool}
use Rattle.reg_tables_sql.specs.declared.accounts.Account.{Account}
use Rattle.reg_tables_sql.specs.declared.tokens.TokenRow.{TokenRow}
use Rattle.reg_tables_sql.specs.Tokens.{columns_with_account}
use Rattle.reg_tables_represent.specs.Calls.{FindsCrate, ListsOwners, Tells}
use Rattle.reg_tables_represent.specs.Changes.{told_of as told_where}
use Rattle.reg_tables_represent.specs.Entries.{entry_of_account}
use Rattle.reg_tables_represent.specs.Stands.{spelling_at}
use Rattle.reg_tables_sql.specs.declared.crates.Crate.{Crate}
use Rattle.reg_access.specs.declared.granting.Standing.{Standing}
use Rattle.reg_access.specs.declared.grants.Grant.{Grant}

-- a token, an endpoint, and the login of the token's account
abbrev pub Told : Type 0
Told = ℕ × Endpoint × Words

abbrev pub told_of : Grant → Told
told_of g = (g.token, g.endpoint, g.login)

-- whether an endpoint may be used by an account that owns the crate or not, of a crate that is free
-- to be made or not
abbrev pub is_right : Bool → Bool → Endpoint → Bool
is_right free owned endpoint.PublishNew = free
is_right free owned e = owned

-- what a token that was found may use, where these are the owners
abbrev pub told_by : List Account → Bool → TokenRow → List Told
told_by owners free row =
    map (λ e. (row.id, e, string_bytes row.login)) (filter (λ e. has_endpoint row.endpoints e
    && is_right free (list_any (λ o. o.id == row.account) owners) e) all_endpoints)

abbrev pub login_at : Registry → ℕ → Words
login_at s id = unwrap_or (option_map (λ a. a.login) (with_id s.accounts id)) []

-- the grants of a crate, each with the login of the token's account
abbrev pub granted : Registry → Words → List Told
granted s n = flat_map
    (λ t. map (λ e. (t.0, e, login_at s t.1.account)) (filter (is_granted s n t.1) all_endpoints))
    (enumerate_from 1 s.tokens)

-- these are the grants of a crate, in their order
abbrev pub AreGrants : Words → Trees → List Grant → Type 0
AreGrants n db list = Tells (λ ids s. (map told_of list ≡ granted s n)
    × (map (λ g. (g.token, g.endpoint)) list ≡ grants s n)) db

-- a live token of an enabled account that has a pattern which covers the name
abbrev pub is_candidate : Registry → Words → Token → Bool
is_candidate s n t = (t.live && is_enabled s t.account) && list_any (λ p. covers p n) t.patterns

-- its columns, with those of its account
abbrev pub row_of_candidate : Registry → ℕ × Token → Row
row_of_candidate s e =
    Int (pos e.0) ∷ Int (pos e.1.account) ∷ sql_bool e.1.live ∷ sql_bool e.1.endpoints.publish_new
    ∷ sql_bool e.1.endpoints.publish_update ∷ sql_bool e.1.endpoints.yank
    ∷ sql_bool e.1.endpoints.change_owners ∷ Text (login_at s e.1.account)
    ∷ sql_bool (is_enabled s e.1.account) ∷ []

-- these are all such tokens, by id
abbrev pub AreCandidates : Words → Trees → List TokenRow → Type 0
AreCandidates text db list = Tells
    (λ ids s. (n : Words) → is_name n ≡ true → canon n ≡ text
    → map columns_with_account list
    ≡ map (row_of_candidate s) (filter (λ e. is_candidate s n e.1) (enumerate_from 1 s.tokens))) db

-- whether the name is free to be made a crate
abbrev pub is_free : Registry → Words → Bool
is_free s n = not (exists s n) && not (is_reserved s n)

-- the accounts that own the crate that was found, by their ids
abbrev pub AreOwnersOf : Option Crate → Trees → List Account → Type 0
AreOwnersOf None db list = list ≡ []
AreOwnersOf (Some it) db list = ListsOwners it.id db list

-- whether a name can't be made a crate, where this was found under its canonical text
abbrev pub TellsTaken : Option Crate → Words → Trees → Bool → Type 0
TellsTaken found text db b = Tells (λ ids s. b
    ≡ (is_some found || (is_reserved_always text || finset.contains s.reserved text))) db

-- what was found under a canonical text, and what it says of tokens
abbrev pub IsStanding : Words → Trees → Standing → Type 0
IsStanding text db it = (found : Option Crate) × FindsCrate text db found
    × AreOwnersOf found db it.owners.items × TellsTaken found text db it.taken

-- a reader, by its id and its login
abbrev pub reader_of : Account → ℕ × Words
reader_of a = (a.id, string_bytes a.login)

-- the readers of a restricted crate, by their ids: of a name; as accounts of the crate with this
-- id, and of what was found
abbrev pub AreReaders : Words → Trees → List (ℕ × Words) → Type 0
AreReaders n db list = Tells (λ ids s. list ≡ map (λ o. (o.0, o.1.login)) (who_reads s n)) db

abbrev pub AreReadersAt : ℕ → Trees → List Account → Type 0
AreReadersAt id db list = Tells
    (λ ids s. map entry_of_account list ≡ told_where (spelling_at ids id) [] (who_reads s)) db

abbrev pub AreReadersOf : Option Crate → Trees → List Account → Type 0
AreReadersOf None db list = list ≡ []
AreReadersOf (Some it) db list = AreReadersAt it.id db list
