-- The law of opening: rows pass all checks exactly where they stand for a sound registry.
use Rattle.std.specs.Prelude.{◌↔◌, ◌≡◌, Option, None}
use Rattle.sqlite.specs.Tree.{Trees}
use Rattle.reg_model.specs.Registry.{Registry}
use Rattle.reg_tables_represent.specs.Stands.{StandsSoundBy}
use Rattle.reg_tables_represent.specs.Stored.{IdAssignment}
use Rattle.reg_tables_rows.specs.WholeRows.{AreAllRows}
use Rattle.reg_tables_rows.specs.declared.all_rows.AllRows.{AllRows}
use Rattle.reg_audit.specs.Checks.{IsFirst, Passes}
use Rattle.reg_audit.specs.declared.check.Check.{Check}
use Rattle.reg_check_sound.specs.RegistryFrom.{ids_from, registry_from}
use Rattle.reg_check_sound.specs.Rules.{KeepsRules}

-- the rows pass each check
abbrev pub PassAll : AllRows → Trees → Type 0
PassAll it db = (c : Check) → Passes it db c

-- the rows are a sound registry
abbrev pub AreRegistry : Trees → Type 0
AreRegistry db = (ids : IdAssignment) × (s : Registry) × StandsSoundBy ids s db

-- what is read as these records passes all checks exactly where it is a sound registry
abbrev pub OpeningLaw : Type 0
OpeningLaw = (it : AllRows) (db : Trees) → AreAllRows it db
    → PassAll it db ↔ AreRegistry db

-- so no check is found to fail exactly where there is one
abbrev pub AuditLaw : Type 0
AuditLaw = (it : AllRows) (db : Trees) → AreAllRows it db
    → (found : Option Check) → IsFirst it db found → (found ≡ None) ↔ AreRegistry db

-- what passes is the registry that is built from the records
abbrev pub PassingHolds : Type 0
PassingHolds = (it : AllRows) (db : Trees) → AreAllRows it db → PassAll it db
    → StandsSoundBy (ids_from it db) (registry_from it db) db

-- what is a sound registry passes
abbrev pub HoldingPasses : Type 0
HoldingPasses = (it : AllRows) (db : Trees) → AreAllRows it db → (ids : IdAssignment) (s : Registry)
    → StandsSoundBy ids s db → PassAll it db

-- what passes keeps the rules of its tables
abbrev pub SchemaKeeps : Type 0
SchemaKeeps = (it : AllRows) (db : Trees) → AreAllRows it db → PassAll it db
    → KeepsRules db
