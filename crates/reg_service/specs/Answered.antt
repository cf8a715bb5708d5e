-- Tables that hold a registry between two transactions, and what an event leaves of them.
use Rattle.std.specs.Prelude.{◌≡◌, ◌⊎◌, Bool, true, false, IsTrue}
use Rattle.sqlite.specs.State.{State, HasCleanDisk}
use Rattle.sqlite.specs.Tree.{Trees}
use Rattle.sqlite_disk.specs.Disk.{MoreFaults}
use Rattle.sqlite_trees.specs.declared.store.Store.{Ghosts}
use Rattle.reg_body.specs.declared.limits.Limits.{Limits}
use Rattle.reg_model.specs.Events.{Answer, Event}
use Rattle.reg_model.specs.Registry.{Registry}
use Rattle.reg_model.specs.Steps.{Step, unavailable, outcome}
use Rattle.reg_tables_schema.specs.declared.edition.SchemaVersion.{SchemaVersion}
use Rattle.reg_tables_schema.specs.declared.edition.SchemaVersion.TheVariants.{Second}
use Rattle.reg_tables_schema.specs.States.{HasSchema, LeavesOurs}
use Rattle.reg_tables_represent.specs.Stands.{StandsSoundBy, IdAssignment, Stands}
use Rattle.reg_check_sound.specs.Editions.{StandsSoundAsBy}
use Rattle.reg_tables.specs.declared.tables.Tables.{Tables}
use Rattle.reg_tables.specs.Works.{AreOurs, edition_in, is_stopped, shown}

-- the rows are those of this sound registry
abbrev pub StandsSound : Registry → Trees → Type 0
StandsSound s db = (ids : IdAssignment) × StandsSoundBy ids s db

-- the same of rows of either schema
abbrev pub StandsSoundAs : SchemaVersion → Registry → Trees → Type 0
StandsSoundAs e s db = (ids : IdAssignment) × StandsSoundAsBy e ids s db

-- a database of a schema of ours, with the rows of this sound registry
abbrev pub HoldsRegistry : Registry → Trees → Type 0
HoldsRegistry s db = (e : SchemaVersion) × HasSchema e db × StandsSoundAs e s db

-- the rows of this registry are what a connection shows; one that is shut shows nothing
abbrev pub StandsIn : Registry → State → Type 0
StandsIn s at = IsTrue at.is_open → StandsSound s at.now.trees

-- a disk that is clean after was clean before
abbrev pub WasClean : {S : Type 0} → Ghosts S → Tables S → Tables S → Type 0
WasClean g old new = HasCleanDisk (shown g new) → HasCleanDisk (shown g old)

-- whether it has stopped before and after: one that has stopped refuses and stays so, and one that
-- stops refuses
pub record Halts (old new : Bool) (Refuses : Type 0) : Type 0 where
  pub stopped : old ≡ true → Refuses
  pub stays : old ≡ true → new ≡ true
  pub stops : new ≡ true → Refuses

-- a crash at this moment leaves the rows of this registry and nothing else
abbrev pub LeavesAlone : Registry → State → Type 0
LeavesAlone s at = (db : Trees) → at.may_leave db → Stands s db

-- All is as it was: the same registry is held, a crash leaves it alone, and leaves nothing that it
-- could not leave before.
pub record Stays {S : Type 0} (g : Ghosts S) (s : Registry) (old new : Tables S) : Type 0 where
  pub shows : StandsIn s (shown g new)
  pub alone : LeavesAlone s (shown g new)
  pub left : (db : Trees) → (shown g new).may_leave db → (shown g old).may_leave db

-- what a crash may leave now, it could leave before
abbrev pub LeavesNoMore : {S : Type 0} → Ghosts S → Tables S → Tables S → Type 0
LeavesNoMore g old new = (db : Trees) → (shown g new).may_leave db → (shown g old).may_leave db

-- The commit of this very call was refused, so that the tables have stopped: a crash leaves the
-- registry s as it was or, where the disk failed meanwhile, t with the whole change.
pub record LeavesRefused {S : Type 0} (g : Ghosts S) (s t : Registry) (old new : Tables S)
    (db : Trees) : Type 0 where
  pub went_on : is_stopped old ≡ false
  pub stops : is_stopped new ≡ true
  pub leaves : Stands s db
      ⊎ (MoreFaults (shown g old).faults (shown g new).faults × Stands t db)

-- The event was answered so, by a step from the registry that was held to one that is held now.
-- What was answered is kept through a crash. What had no room leaves a crash what it could leave
-- before or, where its own commit was refused, the registry as it was or with the whole change.
-- Where a commit was refused before, there is no room, it stays so, and a crash leaves nothing new.
pub record Answers {S : Type 0} (g : Ghosts S) (limits : Limits) (s : Registry) (e : Event)
    (a : Answer) (old new : Tables S) : Type 0 where
  pub after : Registry
  pub step : Step limits s e a after
  pub shows : StandsIn after (shown g new)
  pub kept : (a ≡ unavailable e) ⊎ LeavesAlone after (shown g new)
  pub left : (db : Trees) → (shown g new).may_leave db → (shown g old).may_leave db
      ⊎ ((a ≡ (outcome limits s e).0) × Stands (outcome limits s e).1 db)
      ⊎ LeavesRefused g s (outcome limits s e).1 old new db
  pub shut : is_stopped old ≡ true
      → (a ≡ unavailable e) × (is_stopped new ≡ true) × LeavesNoMore g old new

-- whatever registry the tables held, the event is answered so
abbrev pub IsAnswered : {S : Type 0} → Ghosts S → Limits → Event → Answer → Tables S → Tables S
    → Type 0
IsAnswered g limits e a old new =
    HasCleanDisk (shown g new) → (s : Registry) → StandsIn s (shown g old)
    → Answers g limits s e a old new

-- our tables, of schema 2, of which a crash leaves tables of schema 2
pub record AreUpToDate {S : Type 0} (g : Ghosts S) (t : Tables S) : Type 0 where
  pub ours : AreOurs g t
  pub second : edition_in t ≡ Second
  pub left : LeavesOurs Second (shown g t)
