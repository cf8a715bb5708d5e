-- A registry over a store, as a caller sees it.
use Rattle.std.specs.Prelude.{◌≡◌, ◌⊎◌, Bool, Option, Some, false, IsTrue, refl}
use Rattle.std.specs.Coded.{Coded, code_by, coded×}
use Rattle.sqlite.specs.Effect.{Database}
use Rattle.sqlite.specs.Tree.{Trees}
use Rattle.sqlite.specs.State.{HasCleanDisk, State}
use Rattle.sqlite_trees.specs.declared.store.Store.{Ghosts}
use Rattle.reg_body.specs.declared.limits.Limits.{Limits}
use Rattle.reg_body.specs.contracts.limits.Limits as limits
use Rattle.reg_model.specs.Registry.{Text, empty_at, Registry as Modelled}
use Rattle.reg_audit.specs.declared.check.Check.{Check}
use Rattle.reg_audit.specs.Checks.{IsFirst}
use Rattle.reg_tables_schema.specs.Schema.{old_schema, ours, schema_of}
use Rattle.reg_tables_schema.specs.States.{HasSchema}
use Rattle.reg_tables_schema.specs.declared.edition.SchemaVersion.{SchemaVersion}
use Rattle.reg_tables_schema.specs.declared.edition.SchemaVersion.TheVariants.{First, Second}
use Rattle.reg_tables_sql.specs.Abouts.{HasBase}
use Rattle.reg_tables_rows.specs.declared.all_rows.AllRows.{AllRows}
use Rattle.reg_tables_rows.specs.WholeRows.{AreAllRows}
use Rattle.reg_tables.specs.declared.tables.Tables.{Tables}
use Rattle.reg_tables_represent.specs.Upgrades.{AreBegun, AreUpgraded}
use Rattle.reg_tables.specs.Works.{edition_in, is_stopped, shown, tables_code}
use Rattle.reg_service.specs.Answered.{StandsSoundAs, LeavesAlone, StandsIn}
use Rattle.reg_service.specs.declared.opening.OpenFault.{OpenFault}
use Rattle.reg_service.specs.declared.opening.OpenFault.TheVariants.{Storage}

-- a registry as its callers see it: the tables that hold it, and its limits
pub record Running (S : Type 0) : Type 0 where
  pub tables : Tables S
  pub limits : Limits

-- it is told by its tables and its limits
abbrev pub running_code : {S : Type 0} → Coded S → Coded (Running S)
running_code {S} store =
    code_by (Tables S × Limits)
    (coded× (tables_code store) limits.the_row.coded)
    (λ r. (r.tables, r.limits))
    (λ p. record { tables = p.0; limits = p.1 })
    (λ _. refl)

abbrev pub tables_of : {S : Type 0} → Running S → Tables S
tables_of r = r.tables

abbrev pub limits_of : {S : Type 0} → Running S → Limits
limits_of r = r.limits

-- the first check that fails on these rows, once they are of schema 2; or none
abbrev pub IsFirstFailing : SchemaVersion → Database → Option Check → Type 0
IsFirstFailing e now check =
    (db : Trees) × AreBegun e now db × (it : AllRows) × AreAllRows it db × IsFirst it db check

-- tables that could be read were checked so
abbrev pub AreChecked : SchemaVersion → State → Option Check → Type 0
AreChecked e old check = IsTrue old.is_open × IsFirstFailing e old.now check

-- what was found, of either schema, are the rows of a sound registry, and that one is held now
pub record AreOne (found : Database) (held : State) : Type 0 where
  pub edition : SchemaVersion
  pub schema : found.schema ≡ schema_of edition
  pub registry : Modelled
  pub before : StandsSoundAs edition registry found.trees
  pub after : StandsIn registry held

-- A crash leaves what is held now where what was found is of schema 1, and else nothing that it
-- could not leave before.
abbrev pub LeavesOpened : State → State → Type 0
LeavesOpened old new = (db : Trees) → new.may_leave db
    → ((old.now.schema ≡ ours) × old.may_leave db)
    ⊎ ((old.now.schema ≡ old_schema) × (db ≡ new.now.trees))

-- what a crash may leave of the upgrade of open tables of schema 1: the same rows in schema 2
abbrev pub MayBecome : SchemaVersion → State → Trees → Type 0
MayBecome e old db = (e ≡ First) × IsTrue old.is_open × AreUpgraded old.now db × HasSchema Second db

-- Of a store that is not opened a crash may leave what it could not leave before only where schema
-- 1 was to become schema 2, and the store or memory was refused: then the same rows in schema 2.
abbrev pub MayBeUpgraded : OpenFault → Database → Trees → Type 0
MayBeUpgraded fault found db =
    (fault ≡ Storage) × (found.schema ≡ old_schema) × AreUpgraded found db × HasSchema Second db

-- tables of this edition are held as those of schema 2 that they are, or become
pub record IsBrought (e : SchemaVersion) (old new : State) : Type 0 where
  pub was_open : IsTrue new.is_open → IsTrue old.is_open
  pub begun : IsTrue new.is_open → AreBegun e old.now new.now.trees
  pub left : (db : Trees) → new.may_leave db
      → ((e ≡ Second) × old.may_leave db) ⊎ ((e ≡ First) × (db ≡ new.now.trees))

-- a registry of these tables holds what they are, or become
abbrev pub Brings : {S : Type 0} → Ghosts S → Tables S → Running S → Type 0
Brings g tables r = HasCleanDisk (shown g (tables_of r))
    → IsBrought (edition_in tables) (shown g tables) (shown g (tables_of r))

-- a registry that has these limits, and has stopped if its tables had
pub record HasBegun {S : Type 0} (limits : Limits) (stopped : Bool) (r : Running S) : Type 0 where
  pub limited : limits_of r ≡ limits
  pub goes_on : is_stopped (tables_of r) ≡ stopped

-- this check is the first that fails on our tables as they were found, and the rows are those of
-- no sound registry
pub record AreDamaged (now : Database) (check : Check) : Type 0 where
  pub edition : SchemaVersion
  pub schema : now.schema ≡ schema_of edition
  pub about : HasBase edition now.trees
  pub first : IsFirstFailing edition now (Some check)
  pub no_registry : (s : Modelled) → StandsSoundAs edition s now.trees → ⊥

-- a registry of this base with nothing in it, which a crash leaves alone
pub record IsNew {S : Type 0} (g : Ghosts S) (base : Text) (limits : Limits) (r : Running S)
    : Type 0 where
  pub goes_on : is_stopped (tables_of r) ≡ false
  pub shows : HasCleanDisk (shown g (tables_of r))
      → StandsIn (empty_at base) (shown g (tables_of r))
  pub alone : HasCleanDisk (shown g (tables_of r))
      → LeavesAlone (empty_at base) (shown g (tables_of r))
  pub limited : limits_of r ≡ limits
