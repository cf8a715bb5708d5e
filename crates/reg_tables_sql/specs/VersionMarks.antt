-- What the summary of a crate is made of: its versions, how long their stems are, and their marks.
use Rattle.std.specs.Prelude.{◌≡◌, ℕ, pos, List, [], ◌∷◌, Option, map, filter, string_bytes}
use Rattle.sqlite.specs.declared.types.Value.TheVariants.{Int, Text}
use Rattle.sqlite.specs.Order.{Row, column}
use Rattle.sqlite.specs.Tree.{Trees}
use Rattle.sqlite_sql.specs.Text.{length_of}
use Rattle.reg_tables_schema.specs.Places.{id_place, version_crate_place, versions_tree}
use Rattle.reg_tables_schema.specs.Rows.{IsInOrder, by_column, sql_bool}
use Rattle.reg_tables_schema.specs.Shown.{shown_of}
use Rattle.reg_tables_schema.specs.Tests.{is_number, is_version}
use Rattle.reg_tables_sql.specs.declared.versions.VersionMark.{VersionMark}

-- what is selected of a row: the id, the text, the length of the stem, and the mark
abbrev pub shows_mark : Row → Row
shows_mark row =
    column row 0 ∷ column row 3 ∷ length_of (column row 6) ∷ column row 8 ∷ []

abbrev pub columns_of_mark : VersionMark → Row
columns_of_mark it =
    Int (pos it.id) ∷ Text (string_bytes it.vers) ∷ Int (pos it.stem_length) ∷ sql_bool it.yanked
    ∷ []

-- these are the versions of the crate, by id
abbrev pub AreMarksOf : ℕ → Trees → List VersionMark → Type 0
AreMarksOf of_crate db list =
    IsInOrder (by_column id_place) (filter (is_number version_crate_place of_crate)
    (db versions_tree)) shows_mark (map columns_of_mark list)

-- this is the version with the id, if there is one
abbrev pub IsMarkWithId : ℕ → Trees → Option VersionMark → Type 0
IsMarkWithId id db found =
    map shows_mark (filter (is_number id_place id) (db versions_tree))
    ≡ shown_of columns_of_mark found

-- this is the version of the crate with the release and the text, if there is one
abbrev pub IsMarkOf : ℕ → List ℕ → List ℕ → Trees → Option VersionMark → Type 0
IsMarkOf of_crate release vers db found =
    map shows_mark (filter (is_version of_crate release vers) (db versions_tree))
    ≡ shown_of columns_of_mark found
