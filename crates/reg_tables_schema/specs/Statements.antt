-- What a statement of a transaction leaves, whatever it answers. Each word is all that a caller may
-- know.
use Rattle.std.specs.Prelude.{◌≡◌, Bool, true, false, List, ℕ, Result, Ok, Err, IfOk, OnOk, OnErr, IsTrue}
use Rattle.sqlite_trees.specs.declared.store.Store.{Ghosts}
use Rattle.sqlite.specs.Command.{Command}
use Rattle.sqlite.specs.Command.TheVariants.{Insert, Update, Delete, CreateTable}
use Rattle.sqlite.specs.Held.{Held, state}
use Rattle.sqlite.specs.Given.{IsPlain}
use Rattle.sqlite.specs.Listing.{understood}
use Rattle.sqlite.specs.Order.{Row}
use Rattle.sqlite.specs.State.{State, HasCleanDisk, Shown, Survives}
use Rattle.sqlite.specs.Tree.{Trees}
use Rattle.sqlite_resolve.specs.declared.compiled.Compiled.{Compiled}
use Rattle.sqlite_resolve.specs.declared.error.CompileError.{CompileError}
use Rattle.reg_tables_schema.specs.States.{OnlyReads, Refuses}

-- a transaction in which this text is understood, and only reads
pub record IsReadable (text : List ℕ) (s : State) : Type 0 where
  pub is_open : IsTrue s.is_open
  pub inside : s.in_transaction ≡ true
  pub plain : IsPlain (understood s.now.schema text)

-- what the reading of a text asks
abbrev pub MayRead : List ℕ → State → Type 0
MayRead text s = HasCleanDisk s → IsReadable text s

-- it answers what is told, changes nothing, and no crash in it commits
pub record IsReading {T E : Type 0} (old new : State) (r : Result T E) (tells : T → Type 0)
    : Type 0 where
  pub told : HasCleanDisk new → IfOk r tells
  pub only : HasCleanDisk new → OnlyReads r old new
  pub survives : Survives old new (λ _. ⊥)

-- it makes this change, or is refused, and no crash in it commits
pub record IsWriting {T E : Type 0} (old new : State) (r : Result T E)
    (change : State → State → Type 0)
    : Type 0 where
  pub changes : HasCleanDisk new → OnOk r (change old new)
  pub refused : HasCleanDisk new → OnErr r (Refuses old new)
  pub survives : Survives old new (λ _. ⊥)

-- the same of a connection, before and after
abbrev pub Reads : {S T E : Type 0} → Ghosts S → Held S → Held S → Result T E → (T → Type 0)
    → Type 0
Reads g old new r tells = IsReading (state g old) (state g new) r tells

abbrev pub Writes : {S T E : Type 0} → Ghosts S → Held S → Held S → Result T E
    → (State → State → Type 0) → Type 0
Writes g old new r change = IsWriting (state g old) (state g new) r change

-- the rows that a connection shows, by the tree of their table
abbrev pub rows_in : {S : Type 0} → Ghosts S → Held S → Trees
rows_in g conn = (state g conn).now.trees

-- these rows are what the text answers
abbrev pub Answers : {S : Type 0} → Ghosts S → Held S → Held S → List ℕ → Row → List Row → Type 0
Answers g old new text params rows = Shown text params (state g old) (state g new) rows

-- the command writes rows, and so commits nothing within a transaction
abbrev pub writes_rows : Command → Bool
writes_rows (Insert at from) = true
writes_rows (Update at q) = true
writes_rows (Delete at q) = true
writes_rows CreateTable = true
writes_rows _ = false

-- the text is such a command
abbrev pub IsRowWrite : Result Compiled CompileError → Type 0
IsRowWrite (Ok c) = writes_rows c.command ≡ true
IsRowWrite (Err e) = ⊥
