-- The table of reserved names.
use Rattle.std.specs.Prelude.{◌≡◌, ℕ, Bool, List, [], ◌∷◌, map, string_bytes}
use Rattle.std.specs.List.{list_any}
use Rattle.std.specs.declared.alloc.Global.{Global}
use Rattle.std.specs.declared.string.String.{String}
use Rattle.sqlite.specs.Tree.{Trees}
use Rattle.sqlite.specs.Order.{Row}
use Rattle.sqlite.specs.declared.types.Value.TheVariants.{Text}
use Rattle.reg_tables_schema.specs.Places.{reserved_canon_place, reserved_tree}
use Rattle.reg_tables_schema.specs.Rows.{IsInOrder, by_column}
use Rattle.reg_tables_schema.specs.Tests.{is_text, shows}

abbrev pub reserved_columns : List ℕ → Row
reserved_columns canon = Text canon ∷ []

-- the one column of a row, as a text
abbrev pub columns_of_text : String Global → Row
columns_of_text s = reserved_columns (string_bytes s)

-- these are the reserved names, in order
abbrev pub AreReserved : Trees → List (String Global) → Type 0
AreReserved db list =
    IsInOrder (by_column reserved_canon_place) (db reserved_tree) (shows (1 ∷ []))
    (map columns_of_text list)

-- whether the canonical name is reserved
abbrev pub IsReserved : List ℕ → Trees → Bool → Type 0
IsReserved canon db there = there ≡ list_any (is_text reserved_canon_place canon) (db reserved_tree)
