-- All rows of the tables, read as records.
use Rattle.std.specs.Prelude.{◌≡◌, false, List, Some, string_bytes}
use Rattle.std.specs.List.{AllByRecursion}
use Rattle.sqlite.specs.Order.{Row}
use Rattle.sqlite.specs.Tree.{Trees}
use Rattle.sqlite_schema.specs.Rules.{Obeys}
use Rattle.sqlite_sql.specs.Ops.{is_null}
use Rattle.sqlite_trees.specs.Tree.{rowid}
use Rattle.reg_tables_schema.specs.Places.{archives_tree, crates_tree, owners_tree, readers_tree, reserved_tree, versions_tree}
use Rattle.reg_tables_schema.specs.Schema.{ours}
use Rattle.reg_tables_sql.specs.Abouts.{IsBaseOf}
use Rattle.reg_tables_sql.specs.Accounts.{AreAccounts}
use Rattle.reg_tables_sql.specs.Crates.{AreCratesById}
use Rattle.reg_tables_sql.specs.Owners.{AreOwnerships}
use Rattle.reg_tables_sql.specs.Pairs.{ArePairs}
use Rattle.reg_tables_sql.specs.Reserved.{AreReserved}
use Rattle.reg_tables_sql.specs.Restricted.{AreRestricted}
use Rattle.reg_tables_sql.specs.Scopes.{AreScopes}
use Rattle.reg_tables_sql.specs.Summaries.{AreSummaries}
use Rattle.reg_tables_sql.specs.Tokens.{AreTokens}
use Rattle.reg_tables_sql.specs.Versions.{AreVersions}
use Rattle.reg_tables_rows.specs.declared.all_rows.AllRows.{AllRows}
use Rattle.reg_tables_represent.specs.Stands.{HaveOwnRowids}

-- in none of these tables two rows have one rowid
pub record AreApart (db : Trees) : Type 0 where
  pub crates : HaveOwnRowids (db crates_tree)
  pub versions : HaveOwnRowids (db versions_tree)
  pub owners : HaveOwnRowids (db owners_tree)
  pub readers : HaveOwnRowids (db readers_tree)
  pub reserved : HaveOwnRowids (db reserved_tree)

-- no row's rowid is NULL
abbrev pub HaveIds : List Row → Type 0
HaveIds = AllByRecursion (λ r. is_null (rowid r) ≡ false)

-- there is this base; the records are the rows of their tables, in the order of their keys; rows
-- have rowids of their own, and archives have ids; and they keep the rules of our schema
pub record AreAllRows (it : AllRows) (db : Trees) : Type 0 where
  pub base : IsBaseOf db (Some (string_bytes it.base))
  pub accounts : AreAccounts db it.accounts.items
  pub tokens : AreTokens db it.tokens.items
  pub scopes : AreScopes db it.scopes.items
  pub crates : AreCratesById db it.crates.items
  pub owners : AreOwnerships db it.owners.items
  pub versions : AreVersions db it.versions.items
  pub archives : HaveIds (db archives_tree)
  pub reserved : AreReserved db it.reserved.items
  pub summaries : AreSummaries db it.summaries.items
  pub restricted : AreRestricted db it.restricted.items
  pub readers : ArePairs readers_tree db it.readers.items
  pub apart : AreApart db
  pub obeys : Obeys ours db
