-- Crates and their versions, as lists of records tell them.
use Rattle.std.specs.Prelude.{◌≡◌, ◌++◌, List, [], Some, map, length, slice_get, unwrap_or, string_bytes}
use Rattle.std.specs.List.{flat_map}
use Rattle.std.specs.Option.{option_and_then, option_map}
use Rattle.sqlite.specs.Tree.{Trees}
use Rattle.reg_model.specs.Crates.{first, versions}
use Rattle.reg_model.specs.Registry.{Registry, Text}
use Rattle.reg_model.specs.Reports.{crate_line}
use Rattle.reg_model.specs.Search.{top}
use Rattle.reg_tables_sql.specs.declared.crates.Crate.{Crate}
use Rattle.reg_tables_sql.specs.declared.versions.Version.{Version}
use Rattle.reg_tables_represent.specs.Calls.{ListsCrates, Tells}
use Rattle.reg_tables_represent.specs.Stands.{IdAssignment, spelling_at}
use Rattle.reg_versions.specs.Precedence.{Marked, top_place}
use Rattle.reg_versions.specs.Versions.{parts_of}

-- a version, read, with its mark
abbrev pub read_version : Version → Marked
read_version v = (parts_of (string_bytes v.vers), v.yanked)

-- the text of the highest; an empty one where there is none
abbrev pub highest_among : List Version → Text
highest_among vs =
    unwrap_or (option_map (λ v. string_bytes v.vers)
    (option_and_then (slice_get vs) (top_place (map read_version vs)))) []

-- the line of the crate of a name
abbrev pub line_at : Registry → Text → Text
line_at s n = crate_line (unwrap_or (first s n) []) (length (versions s n))
    (unwrap_or (option_map (λ p. p.version) (top s n)) [])

abbrev pub line_of_crate : Registry → Crate → Text
line_of_crate s c = line_at s (string_bytes c.name)

-- the record is that of a crate, with its spelling
abbrev pub IsCrate : IdAssignment → Registry → Crate → Type 0
IsCrate ids s c = (first s (string_bytes c.name) ≡ Some (string_bytes c.name))
    × (spelling_at ids c.id ≡ Some (string_bytes c.name))

-- the line of a crate comes behind a text
abbrev pub AddsLine : Crate → Text → Text → Trees → Type 0
AddsLine c old new db =
    Tells (λ ids s. IsCrate ids s c → new ≡ old ++ line_of_crate s c) db

-- where these are all crates, a text has the lines of some of them
abbrev pub HasLines : List Crate → List Crate → Text → Trees → Type 0
HasLines all some text db =
    ListsCrates db all → Tells (λ ids s. text ≡ flat_map (line_of_crate s) some) db
