-- The greatest id of a table.
use Rattle.std.specs.Prelude.{◌≡◌, ℕ, List, [], ◌∷◌, Option, map, take, IsPermutation, IsSorted}
use Rattle.sqlite.specs.Order.{Row, column, value_cmp}
use Rattle.reg_tables_schema.specs.Rows.{number_columns}
use Rattle.reg_tables_schema.specs.Shown.{shown_of}
use Rattle.reg_tables_schema.specs.Tests.{shows}

-- the id of the first of the rows as their ids fall, or nothing where there is no row
pub record IsGreatest (rows out : List Row) : Type 0 where
  pub ordered : List Row
  pub same : IsPermutation rows ordered
  pub sorted : IsSorted (λ a b. value_cmp (column b 0) (column a 0)) ordered
  pub shown : out ≡ map (shows (0 ∷ [])) (take 1 ordered)

-- the row of an id, or none
abbrev pub row_of_id : Option ℕ → List Row
row_of_id = shown_of number_columns
