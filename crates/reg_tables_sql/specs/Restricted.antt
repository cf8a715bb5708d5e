-- The table of the crates that are not for everyone.
use Rattle.std.specs.Prelude.{◌≡◌, ℕ, Bool, List, [], ◌∷◌, map}
use Rattle.std.specs.List.{list_any}
use Rattle.sqlite.specs.Tree.{Trees}
use Rattle.sqlite.specs.Order.{Row}
use Rattle.reg_tables_schema.specs.Places.{restricted_crate_place, restricted_tree}
use Rattle.reg_tables_schema.specs.Rows.{IsInOrder, by_column, keyed, number_columns}
use Rattle.reg_tables_schema.specs.Tests.{is_number, shows}

-- a row as it stands in its tree
abbrev pub restricted_row : ℕ → Row
restricted_row of_crate = keyed of_crate []

-- the row is that of the crate
abbrev pub is_restricted : ℕ → Row → Bool
is_restricted = is_number restricted_crate_place

-- these are the ids of the restricted crates, in order
abbrev pub AreRestricted : Trees → List ℕ → Type 0
AreRestricted db ids =
    IsInOrder (by_column restricted_crate_place) (db restricted_tree)
    (shows (restricted_crate_place ∷ [])) (map number_columns ids)

-- whether the crate is restricted
abbrev pub IsRestricted : ℕ → Trees → Bool → Type 0
IsRestricted of_crate db there = there ≡ list_any (is_restricted of_crate) (db restricted_tree)
