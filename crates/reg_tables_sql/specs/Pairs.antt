-- The tables of pairs, a crate and an account: who owns a crate, and who reads it. A table is told
-- by its tree.
use Rattle.std.specs.Prelude.{◌≡◌, ℕ, pos, Bool, ◌&&◌, List, [], ◌∷◌, map, filter}
use Rattle.std.specs.List.{flat_map, list_any}
use Rattle.sqlite.specs.Tree.{Trees}
use Rattle.sqlite.specs.Order.{Row, column}
use Rattle.sqlite.specs.declared.types.Value.TheVariants.{Int}
use Rattle.sqlite.specs.Collation.TheVariants.{Binary}
use Rattle.sqlite_schema.specs.Rules.{equal}
use Rattle.reg_tables_schema.specs.Places.{accounts_tree, id_place}
use Rattle.reg_tables_schema.specs.Rows.{IsInOrder, by_column, by_columns}
use Rattle.reg_tables_schema.specs.Tests.{is_number, shows}
use Rattle.reg_tables_sql.specs.declared.accounts.Account.{Account}
use Rattle.reg_tables_sql.specs.declared.pairs.Pair.{Pair}
use Rattle.reg_tables_sql.specs.Accounts.{account_columns, account_places}

abbrev pub pair_crate_place : ℕ
pair_crate_place = 1

abbrev pub pair_account_place : ℕ
pair_account_place = 2

-- the ids of a crate and of an account
abbrev pub pair_columns : ℕ → ℕ → Row
pair_columns of_crate account = Int (pos of_crate) ∷ Int (pos account) ∷ []

abbrev pub pair_places : List ℕ
pair_places = pair_crate_place ∷ pair_account_place ∷ []

abbrev pub columns_of_pair : Pair → Row
columns_of_pair it = pair_columns it.crate_id it.account

-- the row is that of this crate and this account
abbrev pub is_pair : ℕ → ℕ → Row → Bool
is_pair of_crate account row =
    is_number pair_crate_place of_crate row && is_number pair_account_place account row

-- the account is that of the pair, as SQL compares values
abbrev pub is_of_pair : Row → Row → Bool
is_of_pair pair account = equal Binary (column account 0) (column pair pair_account_place)

-- the id, login, name and mark of each account that is paired with the crate
abbrev pub accounts_in : ℕ → ℕ → Trees → List Row
accounts_in tree of_crate db =
    flat_map (λ pair. map (shows account_places) (filter (is_of_pair pair) (db accounts_tree)))
    (filter (is_number pair_crate_place of_crate) (db tree))

-- these are the accounts that are paired with the crate, by id
abbrev pub AreAccountsOf : ℕ → ℕ → Trees → List Account → Type 0
AreAccountsOf tree of_crate db list =
    IsInOrder (by_column id_place) (accounts_in tree of_crate db) (λ row. row)
    (map account_columns list)

-- these are all pairs, by crate and account
abbrev pub ArePairs : ℕ → Trees → List Pair → Type 0
ArePairs tree db list =
    IsInOrder (by_columns pair_crate_place pair_account_place) (db tree) (shows pair_places)
    (map columns_of_pair list)

-- whether the crate and the account are a pair
abbrev pub IsPaired : ℕ → ℕ → ℕ → Trees → Bool → Type 0
IsPaired tree of_crate account db there = there ≡ list_any (is_pair of_crate account) (db tree)
