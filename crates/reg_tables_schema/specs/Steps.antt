-- What several statements of a transaction leave together, and what is told of their answer.
use Rattle.std.specs.Prelude.{◌≡◌, Result, IfOk, OnOk, OnErr, IsTrue}
use Rattle.sqlite_trees.specs.declared.store.Store.{Ghosts}
use Rattle.sqlite.specs.Held.{Held, state}
use Rattle.sqlite.specs.State.{State, HasCleanDisk, KeepsCommit, Survives}
use Rattle.reg_tables_schema.specs.declared.edition.SchemaVersion.{SchemaVersion}
use Rattle.reg_tables_schema.specs.States.{GoesBack, IsInside, OnlyReads}

-- what is seen has changed within the transaction, and nothing is committed
pub record Within (old new : State) : Type 0 where
  pub was_open : IsTrue old.is_open
  pub committed : new.committed ≡ old.committed
  pub inside : IsInside new
  pub back : (e : SchemaVersion) → GoesBack e old → GoesBack e new

-- a fault: of what is seen nothing is said, and nothing is committed
pub record Fails (old new : State) : Type 0 where
  pub kept : KeepsCommit old new
  pub back : (e : SchemaVersion) → GoesBack e old → GoesBack e new

-- they change what is seen or fail, and no crash in them commits
pub record LeavesWithin {T E : Type 0} (old new : State) (r : Result T E) : Type 0 where
  pub within : HasCleanDisk new → OnOk r (Within old new)
  pub fails : HasCleanDisk new → OnErr r (Fails old new)
  pub survives : Survives old new (λ _. ⊥)

-- they only read, and no crash in them commits
pub record LeavesSame {T E : Type 0} (old new : State) (r : Result T E) : Type 0 where
  pub only : HasCleanDisk new → OnlyReads r old new
  pub survives : Survives old new (λ _. ⊥)

-- the same of a connection, before and after
abbrev pub Steps : {S T E : Type 0} → Ghosts S → Held S → Held S → Result T E → Type 0
Steps g old new r = LeavesWithin (state g old) (state g new) r

abbrev pub KeepsAll : {S T E : Type 0} → Ghosts S → Held S → Held S → Result T E → Type 0
KeepsAll g old new r = LeavesSame (state g old) (state g new) r

-- this is true of what is answered, and this where an answer is given
abbrev pub Told : {S T E : Type 0} → Ghosts S → Held S → Result T E → (T → Type 0) → Type 0
Told g new r tells = HasCleanDisk (state g new) → IfOk r tells

abbrev pub Done : {S T E : Type 0} → Ghosts S → Held S → Result T E → Type 0 → Type 0
Done g new r change = HasCleanDisk (state g new) → OnOk r change
