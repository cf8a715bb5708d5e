-- The law of opening for rows of either schema, as a store is found.
use Rattle.std.specs.Prelude.{◌↔◌, ◌≡◌, Option, None}
use Rattle.sqlite.specs.Effect.{Database}
use Rattle.sqlite.specs.Tree.{Trees}
use Rattle.sqlite_schema.specs.Rules.{Obeys}
use Rattle.reg_model.specs.Registry.{Registry}
use Rattle.reg_model.specs.Sound.{Sound}
use Rattle.reg_tables_schema.specs.Schema.{schema_of}
use Rattle.reg_tables_schema.specs.declared.edition.SchemaVersion.{SchemaVersion}
use Rattle.reg_tables_schema.specs.declared.edition.SchemaVersion.TheVariants.{First, Second}
use Rattle.reg_tables_sql.specs.Abouts.{HasBase}
use Rattle.reg_tables_represent.specs.Stands.{StandsSoundBy, StandsOld}
use Rattle.reg_tables_represent.specs.Stored.{IdAssignment}
use Rattle.reg_tables_rows.specs.WholeRows.{AreAllRows}
use Rattle.reg_tables_rows.specs.declared.all_rows.AllRows.{AllRows}
use Rattle.reg_tables_represent.specs.Upgrades.{AreBegun}
use Rattle.reg_audit.specs.Checks.{IsFirst}
use Rattle.reg_audit.specs.declared.check.Check.{Check}

-- the rows keep the rules of their schema
abbrev pub KeepsSchema : Database → Type 0
KeepsSchema now = Obeys now.schema now.trees

-- our tables as they are found: they keep the rules of their schema, and `about` has one row, with
-- its number
pub record AreFound (e : SchemaVersion) (now : Database) : Type 0 where
  pub schema : now.schema ≡ schema_of e
  pub keeps : KeepsSchema now
  pub about : HasBase e now.trees

-- the registry is sound, and the rows are its
abbrev pub StandsSoundAsBy : SchemaVersion → IdAssignment → Registry → Trees → Type 0
StandsSoundAsBy First ids s db = Sound s × StandsOld ids s db
StandsSoundAsBy Second ids s db = StandsSoundBy ids s db

-- the rows are a sound registry
abbrev pub AreRegistryAs : SchemaVersion → Trees → Type 0
AreRegistryAs e db = (ids : IdAssignment) × (s : Registry) × StandsSoundAsBy e ids s db

-- what is found is a sound registry exactly where what a transaction begins with is, and the same
abbrev pub EditionLaw : Type 0
EditionLaw = (e : SchemaVersion) (now : Database) (db : Trees) → AreFound e now → AreBegun e now db
    → (ids : IdAssignment) (s : Registry)
    → StandsSoundAsBy e ids s now.trees ↔ StandsSoundBy ids s db

-- so no check is found to fail exactly where there is one
abbrev pub FoundLaw : Type 0
FoundLaw = (e : SchemaVersion) (now : Database) (db : Trees) → AreFound e now → AreBegun e now db
    → (it : AllRows) → AreAllRows it db → (found : Option Check) → IsFirst it db found
    → (found ≡ None) ↔ AreRegistryAs e now.trees
