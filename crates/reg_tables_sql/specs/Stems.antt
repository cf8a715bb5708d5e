-- The rows of the index file of a crate.
use Rattle.std.specs.Prelude.{ℕ, List, [], ◌∷◌, filter, map}
use Rattle.sqlite.specs.declared.types.Value.TheVariants.{Blob}
use Rattle.sqlite.specs.Order.{Row}
use Rattle.sqlite.specs.Tree.{Trees}
use Rattle.reg_tables_schema.specs.Places.{id_place, version_crate_place, versions_tree}
use Rattle.reg_tables_schema.specs.Rows.{IsInOrder, by_column, sql_bool}
use Rattle.reg_tables_schema.specs.Tests.{is_number, shows}
use Rattle.reg_tables_sql.specs.declared.versions.StemRow.{StemRow}
use Rattle.reg_tables_sql.specs.declared.versions.TheConstants.{ENTRIES_TEXT}

-- the text that answers them
abbrev pub entries_text : List ℕ
entries_text = ENTRIES_TEXT.now

-- the stem of a version's line, and its mark
abbrev pub stem_places : List ℕ
stem_places = 6 ∷ 8 ∷ []

abbrev pub columns_of_stem : StemRow → Row
columns_of_stem it = Blob it.stem.items ∷ sql_bool it.yanked ∷ []

-- these are the stem and the mark of each version of the crate, by id
abbrev pub AreStemsOf : ℕ → Trees → List Row → Type 0
AreStemsOf of_crate db rows =
    IsInOrder (by_column id_place) (filter (is_number version_crate_place of_crate)
    (db versions_tree))
    (shows stem_places) rows

-- the same as records
abbrev pub AreEntriesOf : ℕ → Trees → List StemRow → Type 0
AreEntriesOf of_crate db list = AreStemsOf of_crate db (map columns_of_stem list)
