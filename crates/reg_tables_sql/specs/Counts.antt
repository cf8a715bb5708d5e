-- How many rows a table has, in all or of one kind, and its greatest and its first id.
use Rattle.std.specs.Prelude.{◌≡◌, ℕ, pos, [], ◌∷◌, List, filter, length, take, Option}
use Rattle.sqlite.specs.Order.{Row}
use Rattle.sqlite.specs.declared.types.Value.TheVariants.{Int}
use Rattle.sqlite.specs.Tree.{Trees}
use Rattle.reg_tables_schema.specs.Greatest.{IsGreatest, row_of_id}
use Rattle.reg_tables_schema.specs.Places.{id_place}
use Rattle.reg_tables_schema.specs.Rows.{IsInOrder, by_column, capped}
use Rattle.reg_tables_schema.specs.Tests.{is_number, shows}

-- the number of rows, up to the greatest count of SQL
abbrev pub IsCount : ℕ → Trees → ℕ → Type 0
IsCount tree db n = Int (pos n) ≡ capped (length (db tree))

-- the same of the rows that have this number at a place
abbrev pub IsCountOf : ℕ → ℕ → ℕ → Trees → ℕ → Type 0
IsCountOf tree place id db n = Int (pos n) ≡ capped (length (filter (is_number place id) (db tree)))

-- the greatest id, if there is a row
abbrev pub IsLastId : ℕ → Trees → Option ℕ → Type 0
IsLastId tree db id = IsGreatest (db tree) (row_of_id id)

-- the first of the ids in the order of SQL, where NULL comes first, if there is a row
abbrev pub IsFirstId : ℕ → Trees → Option ℕ → Type 0
IsFirstId tree db id = (ids : List Row)
    × IsInOrder (by_column id_place) (db tree) (shows (id_place ∷ [])) ids
    × (row_of_id id ≡ take 1 ids)
