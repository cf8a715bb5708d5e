-- The rowids of a table that has no key of its own.
use Rattle.std.specs.Prelude.{ℕ, ℤ, List, [], ◌∷◌, map}
use Rattle.sqlite.specs.Tree.{Trees}
use Rattle.sqlite.specs.Order.{Row}
use Rattle.sqlite.specs.declared.types.Value.TheVariants.{Int}
use Rattle.reg_tables_schema.specs.Rows.{IsInOrder, by_column}
use Rattle.reg_tables_schema.specs.Tests.{shows}

abbrev pub rowid_place : ℕ
rowid_place = 0

-- a row of one rowid
abbrev pub rowid_columns : ℤ → Row
rowid_columns id = Int id ∷ []

-- these are the rowids of the table at this tree, in order
abbrev pub AreRowids : ℕ → Trees → List ℤ → Type 0
AreRowids tree db ids =
    IsInOrder (by_column rowid_place) (db tree) (shows (rowid_place ∷ [])) (map rowid_columns ids)
