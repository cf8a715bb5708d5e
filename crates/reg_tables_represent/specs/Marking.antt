-- Which version gets another mark.
use Rattle.std.specs.Prelude.{◌≡◌, ℕ, Bool, true, false, List, Option, Some, None}
use Rattle.std.specs.Option.{option_and_then}
use Rattle.sqlite.specs.Tree.{Trees}
use Rattle.reg_tables_sql.specs.VersionMarks.{IsMarkOf}
use Rattle.reg_tables_sql.specs.declared.versions.VersionMark.{VersionMark}
use Rattle.reg_versions.specs.Versions.{release_key_of}

-- the id, unless the mark is this one already
abbrev pub id_unless : Bool → Bool → ℕ → Option ℕ
id_unless true true id = None
id_unless false false id = None
id_unless true false id = Some id
id_unless false true id = Some id

-- this is the id of the version of the crate with this text, if it is there and has another mark
abbrev pub IsOtherwise : ℕ → List ℕ → Bool → Trees → Option ℕ → Type 0
IsOtherwise of_crate text yanked db id = (found : Option VersionMark)
    × IsMarkOf of_crate (release_key_of text) text db found
    × (id ≡ option_and_then (λ m. id_unless m.yanked yanked m.id) found)
