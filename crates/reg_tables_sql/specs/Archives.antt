-- The table of archives, alone and with their versions.
use Rattle.std.specs.Prelude.{◌≡◌, ℕ, pos, Bool, List, [], ◌∷◌, Option, map, filter, Vec}
use Rattle.std.specs.declared.alloc.Global.{Global}
use Rattle.std.specs.List.{flat_map}
use Rattle.sqlite.specs.Tree.{Trees}
use Rattle.sqlite.specs.Order.{Row, column}
use Rattle.sqlite.specs.declared.types.Value.TheVariants.{Blob, Int}
use Rattle.sqlite.specs.Collation.TheVariants.{Binary}
use Rattle.sqlite_schema.specs.Rules.{equal}
use Rattle.reg_tables_schema.specs.Places.{archives_tree, id_place, versions_tree}
use Rattle.reg_tables_schema.specs.Rows.{keyed}
use Rattle.reg_tables_schema.specs.Shown.{shown_of}
use Rattle.reg_tables_schema.specs.Tests.{is_number, is_version, shows}
use Rattle.reg_tables_sql.specs.declared.archives.Archive.{Archive}

-- a row as it stands in its tree
abbrev pub archive_row : ℕ → List ℕ → Row
archive_row version bytes = keyed version (Blob bytes ∷ [])

-- the archive is that of the version, as SQL compares values
abbrev pub is_archive_of : Row → Row → Bool
is_archive_of version archive = equal Binary (column archive 0) (column version 0)

-- the bytes of each archive of a version of a crate, by its release and its text
abbrev pub archives_of : ℕ → List ℕ → List ℕ → Trees → List Row
archives_of of_crate release vers db =
    flat_map (λ version. map (shows (2 ∷ [])) (filter (is_archive_of version) (db archives_tree)))
    (filter (is_version of_crate release vers) (db versions_tree))

-- the one column of a row, as bytes
abbrev pub columns_of_bytes : Vec ℕ Global → Row
columns_of_bytes bytes = Blob bytes.items ∷ []

-- this is the archive of the version of the crate, if there is one
abbrev pub IsArchiveOf : ℕ → List ℕ → List ℕ → Trees → Option (Vec ℕ Global) → Type 0
IsArchiveOf of_crate release vers db found =
    archives_of of_crate release vers db ≡ shown_of columns_of_bytes found

-- all columns, as they are selected
abbrev pub archive_places : List ℕ
archive_places = 0 ∷ 2 ∷ []

abbrev pub columns_of_archive : Archive → Row
columns_of_archive it = Int (pos it.version) ∷ Blob it.bytes.items ∷ []

-- the columns of the archives that have this id
abbrev pub archives_with_id : ℕ → Trees → List Row
archives_with_id id db =
    map (shows archive_places) (filter (is_number id_place id) (db archives_tree))

abbrev pub IsArchiveWithId : ℕ → Trees → Option Archive → Type 0
IsArchiveWithId id db found = archives_with_id id db ≡ shown_of columns_of_archive found
