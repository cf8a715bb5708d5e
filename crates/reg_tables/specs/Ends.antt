-- How a transaction of our tables begins, and how it ends.
use Rattle.std.specs.Prelude.{◌≡◌, ◌⊎◌, true, false, IsTrue, Result, OnOk, OnErr}
use Rattle.sqlite_disk.specs.Disk.{MoreFaults}
use Rattle.sqlite_trees.specs.declared.store.Store.{Ghosts}
use Rattle.sqlite.specs.Effect.{Database}
use Rattle.sqlite.specs.State.{State, HasCleanDisk, Shows, Survives}
use Rattle.sqlite.specs.Tree.{Trees}
use Rattle.reg_tables_schema.specs.declared.edition.SchemaVersion.TheVariants.{Second}
use Rattle.reg_tables_schema.specs.States.{GoesBack, HasSchema, IsUndone, LeavesCommit, LeavesOurs}
use Rattle.reg_tables.specs.Works.{AreOurs, IsActive, edition_in, has_failed, is_stopped, seen, shown}
use Rattle.reg_tables.specs.declared.tables.Tables.{Tables}
use Rattle.reg_tables.specs.declared.work.Work.{Work}

-- a transaction is begun, and sees all that was there
abbrev pub SeesAll : State → State → Type 0
SeesAll old new = Shows old new old.now old.committed true

-- a transaction of the tables is begun, and this is what it sees of them
pub record Begins {S : Type 0} (g : Ghosts S) (sees : State → State → Type 0) (old : Tables S)
    (w : Work S) : Type 0 where
  pub view : HasCleanDisk (seen g w) → sees (shown g old) (seen g w)
  pub goes_on : has_failed w ≡ false
  pub at_work : IsActive g w
  pub was_open : is_stopped old ≡ false
  pub still_open : is_stopped w.tables.now ≡ false
  pub edition : edition_in w.tables.now ≡ edition_in old
  pub survives : Survives (shown g old) (seen g w) (λ _. ⊥)

-- a crash at this moment leaves these rows and nothing else
abbrev pub LeavesOnly : Database → State → Type 0
LeavesOnly db s = (trees : Trees) → s.may_leave trees → trees ≡ db.trees

-- where the connection was open, a crash leaves the last commit alone, or the disk failed since
abbrev pub LeavesLast : State → State → Type 0
LeavesLast old new = IsTrue old.is_open
    → LeavesOnly old.committed new ⊎ MoreFaults old.faults new.faults

-- the changes are committed, and the tables are of schema 2
pub record IsCommitted {S : Type 0} (g : Ghosts S) (old : Work S) (new : Tables S) : Type 0 where
  pub whole : has_failed old ≡ false
  pub kept : HasCleanDisk (shown g new)
      → Shows (seen g old) (shown g new) (seen g old).now (seen g old).now false
  pub alone : HasCleanDisk (shown g new) → LeavesCommit (shown g new)
  pub leaves : LeavesOurs Second (shown g new)
  pub second : edition_in new ≡ Second
  pub same_mode : is_stopped new ≡ is_stopped old.tables.now

-- no commit is acknowledged: a call had failed, or the store refused; what a crash may leave beside
-- the last commit it may leave only where the disk failed
pub record IsRefused {S : Type 0} (g : Ghosts S) (old : Work S) (new : Tables S) : Type 0 where
  pub undone : HasCleanDisk (shown g new) → IsUndone (seen g old) (shown g new)
  pub alone : HasCleanDisk (shown g new) → LeavesLast (seen g old) (shown g new)
  pub edition : edition_in new ≡ edition_in old.tables.now
  pub shut : has_failed old ≡ false → is_stopped new ≡ true
  pub same_mode : has_failed old ≡ true → is_stopped new ≡ is_stopped old.tables.now

-- the end of a transaction that was to be committed
pub record IsEnded {S T E : Type 0} (g : Ghosts S) (r : Result T E) (old : Work S) (new : Tables S)
    : Type 0 where
  pub committed : OnOk r (IsCommitted g old new)
  pub refused : OnErr r (IsRefused g old new)
  pub ours : AreOurs g new
  pub survives : Survives (seen g old) (shown g new)
      (λ db. (has_failed old ≡ false) × (db ≡ (seen g old).now.trees) × HasSchema Second db)

-- the end of a transaction that was not: nothing of it is left
pub record IsDropped {S : Type 0} (g : Ghosts S) (old : Work S) (new : Tables S) : Type 0 where
  pub undone : HasCleanDisk (shown g new) → IsUndone (seen g old) (shown g new)
  pub ours : GoesBack (edition_in old.tables.now) (seen g old) → AreOurs g new
  pub edition : edition_in new ≡ edition_in old.tables.now
  pub same_mode : is_stopped new ≡ is_stopped old.tables.now
  pub survives : Survives (seen g old) (shown g new) (λ _. ⊥)
