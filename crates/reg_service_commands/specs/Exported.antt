-- The index as files, as lists of texts tell it.
use Rattle.std.specs.Prelude.{◌≡◌, ◌++◌, ◌∷◌, [], ℕ, codes, List, Some, map, String, Vec, string_bytes}
use Rattle.std.specs.declared.alloc.Global.{Global}
use Rattle.sqlite.specs.Tree.{Trees}
use Rattle.reg_line.specs.Config.{config_text}
use Rattle.reg_model.specs.Crates.{exported, first, index_of}
use Rattle.reg_model.specs.Registry.{Registry, Text}
use Rattle.reg_tables_sql.specs.declared.crates.Crate.{Crate}
use Rattle.reg_tables_represent.specs.Calls.{ListsCrates, Tells}
use Rattle.reg_tables_represent.specs.Stands.{IdAssignment, spelling_at}

-- a file behind its path, as texts
abbrev pub texts_of : String Global × Vec ℕ Global → Text × Text
texts_of f = (string_bytes f.0, f.1.items)

-- the index file of a crate
abbrev pub file_of : Registry → Crate → Text × Text
file_of s c = index_of s (string_bytes c.name)

-- the record is that of a crate, with its spelling
abbrev pub IsCrate : IdAssignment → Registry → Crate → Type 0
IsCrate ids s c = (first s (string_bytes c.name) ≡ Some (string_bytes c.name))
    × (spelling_at ids c.id ≡ Some (string_bytes c.name))

-- the config is there, and nothing else
abbrev pub HasConfig : List (Text × Text) → Trees → Type 0
HasConfig files db =
    Tells (λ ids s. files ≡ (codes "config.json", config_text s.base) ∷ []) db

-- the file of a crate comes behind others
abbrev pub AddsFile : Crate → List (Text × Text) → List (Text × Text) → Trees → Type 0
AddsFile c old new db =
    Tells (λ ids s. IsCrate ids s c → new ≡ old ++ file_of s c ∷ []) db

-- where these are all crates, the files of some of them come behind others
abbrev pub AddsFiles : List Crate → List Crate → List (Text × Text) → List (Text × Text) → Trees
    → Type 0
AddsFiles all some old new db =
    ListsCrates db all → Tells (λ ids s. new ≡ old ++ map (file_of s) some) db

-- the files are those of the index
abbrev pub Exports : List (String Global × Vec ℕ Global) → Trees → Type 0
Exports files db = Tells (λ ids s. map texts_of files ≡ exported s) db
