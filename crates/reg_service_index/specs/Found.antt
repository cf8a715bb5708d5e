-- The index file of a crate that was found.
use Rattle.std.specs.Prelude.{◌≡◌, [], List}
use Rattle.sqlite.specs.Order.{Row}
use Rattle.sqlite.specs.Tree.{Trees}
use Rattle.reg_line.specs.File.{file_text}
use Rattle.reg_model.specs.Registry.{Registry, Text}
use Rattle.reg_tables_sql.specs.Stems.{AreStemsOf}
use Rattle.reg_tables_represent.specs.Changes.{told_of}
use Rattle.reg_tables_represent.specs.Entries.{entries}
use Rattle.reg_tables_represent.specs.Stands.{StandsSoundBy, IdAssignment, spelling_at}
use Rattle.reg_service_index.specs.Lines.{lines_in}
use Rattle.reg_service_index.specs.declared.found.FoundFile.{FoundFile}

-- its text in the registry
abbrev pub file_at : IdAssignment → Registry → FoundFile → Text
file_at ids s f = file_text (told_of (spelling_at ids f.crate_id) [] (entries s))

-- its text in the tables: the lines of the crate's rows
abbrev pub HasText : FoundFile → Text → Trees → Type 0
HasText f text db = (rows : List Row) → AreStemsOf f.crate_id db rows → lines_in rows ≡ text

-- both are the same
abbrev pub FilesAreRows : Type 0
FilesAreRows = (ids : IdAssignment) (s : Registry) (db : Trees) → StandsSoundBy ids s db
    → (f : FoundFile) → HasText f (file_at ids s f) db
