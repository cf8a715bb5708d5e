-- The table of accounts.
use Rattle.std.specs.Prelude.{◌≡◌, ℕ, pos, Bool, List, [], ◌∷◌, Option, map, filter, string_bytes}
use Rattle.std.specs.Option.{option_map}
use Rattle.sqlite.specs.declared.types.Value.TheVariants.{Int, Text}
use Rattle.sqlite.specs.Order.{Row}
use Rattle.sqlite.specs.State.{State}
use Rattle.sqlite.specs.Tree.{Trees}
use Rattle.sqlite_trees.specs.Tree.{has_rowid}
use Rattle.reg_tables_schema.specs.Changes.{Replaces, Touches}
use Rattle.reg_tables_schema.specs.Places.{accounts_tree, id_place, login_place}
use Rattle.reg_tables_schema.specs.Rows.{IsInOrder, by_column, keyed, sql_bool, text_or_null}
use Rattle.reg_tables_schema.specs.Shown.{shown_of}
use Rattle.reg_tables_schema.specs.Tests.{is_text, shows}
use Rattle.reg_tables_sql.specs.declared.accounts.Account.{Account}
use Rattle.reg_tables_sql.specs.Updates.{KeepsWhereNone}

-- a row as it stands in its tree
abbrev pub account_row : ℕ → List ℕ → Option (List ℕ) → Bool → Row
account_row id login name enabled = keyed id (Text login ∷ text_or_null name ∷ sql_bool enabled
    ∷ [])

-- the id, the login, the name and the mark, as they are selected
abbrev pub account_places : List ℕ
account_places = 0 ∷ 2 ∷ 3 ∷ 4 ∷ []

abbrev pub account_columns : Account → Row
account_columns a =
    Int (pos a.id) ∷ Text (string_bytes a.login) ∷ text_or_null (option_map string_bytes a.name)
    ∷ sql_bool a.enabled ∷ []

-- these are the accounts, by id
abbrev pub AreAccounts : Trees → List Account → Type 0
AreAccounts db list =
    IsInOrder (by_column id_place) (db accounts_tree) (shows account_places)
    (map account_columns list)

-- this is the account with the login, if there is one
abbrev pub IsAccountOfLogin : List ℕ → Trees → Option Account → Type 0
IsAccountOfLogin login db found =
    map (shows account_places) (filter (is_text login_place login) (db accounts_tree))
    ≡ shown_of account_columns found

-- the account with this id is enabled or not, where there is one, and no other table is touched
pub record Enables (id : ℕ) (enabled : Bool) (old new : State) : Type 0 where
  pub replaced : (login : List ℕ) (name : Option (List ℕ)) (was : Bool)
      → filter (has_rowid (pos id)) (old.now.trees accounts_tree) ≡ account_row id login name was
      ∷ []
      → Replaces accounts_tree id (account_row id login name enabled) old new
  pub unmatched : KeepsWhereNone accounts_tree (has_rowid (pos id)) old new
  pub touches : Touches accounts_tree old new
