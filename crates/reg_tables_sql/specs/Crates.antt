-- The table of crates.
use Rattle.sqlite_trees.specs.Tree.{has_rowid}
use Rattle.std.specs.List.{list_any}
use Rattle.std.proofs.Common.{Bool}
use Rattle.std.specs.Prelude.{◌≡◌, ℕ, pos, List, [], ◌∷◌, Option, map, filter, string_bytes}
use Rattle.sqlite.specs.declared.types.Value.TheVariants.{Int, Text}
use Rattle.sqlite.specs.Order.{Row}
use Rattle.sqlite.specs.Tree.{Trees}
use Rattle.reg_tables_schema.specs.Places.{crate_canon_place, crates_tree, id_place}
use Rattle.reg_tables_schema.specs.Rows.{IsInOrder, by_column, keyed}
use Rattle.reg_tables_schema.specs.Shown.{shown_of}
use Rattle.reg_tables_schema.specs.Tests.{is_text, shows}
use Rattle.reg_tables_sql.specs.declared.crates.Crate.{Crate}

-- a row as it stands in its tree
abbrev pub crate_row : ℕ → List ℕ → List ℕ → Row
crate_row id canon name = keyed id (Text canon ∷ Text name ∷ [])

-- the id, the canonical name and the name, as they are selected
abbrev pub crate_places : List ℕ
crate_places = 0 ∷ 2 ∷ 3 ∷ []

abbrev pub crate_columns : Crate → Row
crate_columns c = Int (pos c.id) ∷ Text (string_bytes c.canon) ∷ Text (string_bytes c.name) ∷ []

-- these are the crates, by canonical name
abbrev pub AreCrates : Trees → List Crate → Type 0
AreCrates db list =
    IsInOrder (by_column crate_canon_place) (db crates_tree) (shows crate_places)
    (map crate_columns list)

-- these are the crates, by id
abbrev pub AreCratesById : Trees → List Crate → Type 0
AreCratesById db list =
    IsInOrder (by_column id_place) (db crates_tree) (shows crate_places) (map crate_columns list)

-- this is the crate with the canonical name, if there is one
abbrev pub IsCrateOfCanon : List ℕ → Trees → Option Crate → Type 0
IsCrateOfCanon canon db found =
    map (shows crate_places) (filter (is_text crate_canon_place canon) (db crates_tree))
    ≡ shown_of crate_columns found

-- whether a crate has this id
abbrev pub IsCrateThere : ℕ → Trees → Bool → Type 0
IsCrateThere id db there = there ≡ list_any (has_rowid (pos id)) (db crates_tree)
