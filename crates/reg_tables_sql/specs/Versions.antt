-- The table of versions.
use Rattle.std.specs.Prelude.{◌≡◌, ℕ, pos, Bool, false, List, [], ◌∷◌, Option, map, filter, string_bytes}
use Rattle.std.specs.Option.{option_map}
use Rattle.sqlite.specs.State.{State}
use Rattle.sqlite.specs.Tree.{Trees}
use Rattle.sqlite.specs.Order.{Row}
use Rattle.sqlite.specs.declared.types.Value.TheVariants.{Int, Text, Blob}
use Rattle.reg_tables_schema.specs.Changes.{Replaces, Touches}
use Rattle.reg_tables_schema.specs.Places.{id_place, version_crate_place, versions_tree}
use Rattle.reg_tables_schema.specs.Rows.{IsInOrder, by_column, keyed, sql_bool, text_or_null}
use Rattle.reg_tables_schema.specs.Tests.{is_number, is_version, shows}
use Rattle.reg_tables_sql.specs.declared.versions.Version.{Version}
use Rattle.reg_tables_sql.specs.declared.versions.VersionRow.{VersionRow}
use Rattle.reg_tables_sql.specs.Updates.{KeepsWhereNone}

-- a row as it stands in its tree
abbrev pub version_row : ℕ → ℕ → List ℕ → List ℕ → List ℕ → List ℕ → Option (List ℕ) → Bool → Row
version_row id of_crate vers release digest stem description yanked =
    keyed id
    (Int (pos of_crate) ∷ Text vers ∷ Text release ∷ Blob digest ∷ Blob stem
    ∷ text_or_null description ∷ sql_bool yanked ∷ [])

-- the row that is added
abbrev pub row_added : VersionRow → Row
row_added it =
    version_row it.id it.crate_id it.vers.now it.release.now it.digest.now it.stem.now
    (option_map (λ d. d.now) it.description) false

-- all columns, as they are selected
abbrev pub version_places : List ℕ
version_places = 0 ∷ 2 ∷ 3 ∷ 4 ∷ 5 ∷ 6 ∷ 7 ∷ 8 ∷ []

abbrev pub columns_of_version : Version → Row
columns_of_version it =
    Int (pos it.id) ∷ Int (pos it.crate_id) ∷ Text (string_bytes it.vers)
    ∷ Text (string_bytes it.release) ∷ Blob it.digest.items ∷ Blob it.stem.items
    ∷ text_or_null (option_map string_bytes it.description) ∷ sql_bool it.yanked ∷ []

-- these are the versions of the crate, by id
abbrev pub AreVersionsOf : ℕ → Trees → List Version → Type 0
AreVersionsOf of_crate db list =
    IsInOrder (by_column id_place) (filter (is_number version_crate_place of_crate)
    (db versions_tree))
    (shows version_places) (map columns_of_version list)

-- these are all versions, by id
abbrev pub AreVersions : Trees → List Version → Type 0
AreVersions db list =
    IsInOrder (by_column id_place) (db versions_tree) (shows version_places)
    (map columns_of_version list)

-- the version of the crate with this text is yanked or not, where there is one, and no other table
-- is touched
pub record MarksYanked (of_crate : ℕ) (release vers : List ℕ) (yanked : Bool) (old new : State)
    : Type 0 where
  pub replaced : (id : ℕ) (digest stem : List ℕ) (description : Option (List ℕ)) (was : Bool)
      → filter (is_version of_crate release vers) (old.now.trees versions_tree)
      ≡ version_row id of_crate vers release digest stem description was ∷ []
      → Replaces versions_tree id
      (version_row id of_crate vers release digest stem description yanked) old new
  pub unmatched : KeepsWhereNone versions_tree (is_version of_crate release vers) old new
  pub touches : Touches versions_tree old new
