-- The table of the owners of crates, which are pairs.
use Rattle.std.specs.Prelude.{ℕ, Bool, List}
use Rattle.sqlite.specs.Tree.{Trees}
use Rattle.sqlite.specs.Order.{Row}
use Rattle.reg_tables_schema.specs.Places.{owners_tree}
use Rattle.reg_tables_sql.specs.declared.accounts.Account.{Account}
use Rattle.reg_tables_sql.specs.declared.pairs.Pair.{Pair}
use Rattle.reg_tables_sql.specs.Pairs.{AreAccountsOf, ArePairs, accounts_in, is_of_pair, pair_columns}

-- the ids of a crate and of an account
abbrev pub owner_columns : ℕ → ℕ → Row
owner_columns = pair_columns

-- the account is that of the owner, as SQL compares values
abbrev pub is_of_owner : Row → Row → Bool
is_of_owner = is_of_pair

-- the id, login, name and mark of each account that owns the crate
abbrev pub accounts_of : ℕ → Trees → List Row
accounts_of = accounts_in owners_tree

-- these are the accounts that own the crate, by id
abbrev pub AreOwnersOf : ℕ → Trees → List Account → Type 0
AreOwnersOf = AreAccountsOf owners_tree

-- these are all owners, by crate and account
abbrev pub AreOwnerships : Trees → List Pair → Type 0
AreOwnerships = ArePairs owners_tree
