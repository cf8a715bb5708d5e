-- Rows of our tables, read one at a time in no transaction of the reader's own.
use Rattle.std.specs.Prelude.{◌≡◌, ◌⊎◌, List, Result, OnOk, OnErr, ℕ}
use Rattle.sqlite.specs.Order.{Row}
use Rattle.sqlite_trees.specs.declared.store.Store.{Ghosts}
use Rattle.sqlite.specs.Given.{HasGiven, IsPlain}
use Rattle.sqlite.specs.Held.{Held, state}
use Rattle.sqlite.specs.Listing.{understood}
use Rattle.sqlite.specs.State.{State, HasCleanDisk, IsUnchanged, Survives}
use Rattle.reg_tables_schema.specs.declared.edition.SchemaVersion.{SchemaVersion}
use Rattle.reg_tables_schema.specs.Schema.{schema_of}
use Rattle.reg_tables_schema.specs.States.{IsOurs, Refuses}

-- a connection to our tables, and a text that is understood by their schema
abbrev pub MayStream : List ℕ → State → Type 0
MayStream text s = (e : SchemaVersion) × IsOurs e s × IsPlain (understood (schema_of e) text)

-- the connection where no rows were handed out
pub record IsSpared {S : Type 0} (g : Ghosts S) (old new : Held S) : Type 0 where
  pub refused : HasCleanDisk (state g new) → (new ≡ old) ⊎ Refuses (state g old) (state g new)
  pub ours : (e : SchemaVersion) → IsOurs e (state g old) → IsOurs e (state g new)
  pub survives : Survives (state g old) (state g new) (λ _. ⊥)

-- what reading leaves of the connection: all is as it was, but for what a failure leaves
pub record IsRead {S T E : Type 0} (g : Ghosts S) (r : Result T E) (old new : Held S) : Type 0 where
  pub same : HasCleanDisk (state g new) → OnOk r (IsUnchanged (state g old) (state g new))
  pub refused : HasCleanDisk (state g new)
      → OnErr r ((new ≡ old) ⊎ Refuses (state g old) (state g new))
  pub ours : (e : SchemaVersion) → IsOurs e (state g old) → IsOurs e (state g new)
  pub survives : Survives (state g old) (state g new) (λ _. ⊥)

-- the connection gives the rows of a text, and has given these
pub record HasWalked {S : Type 0} (g : Ghosts S) (text : List ℕ) (params : Row) (old new : Held S)
    (rows : List Row) : Type 0 where
  pub given : HasCleanDisk (state g new) → HasGiven g text params new rows
  pub same : HasCleanDisk (state g new) → IsUnchanged (state g old) (state g new)
  pub ours : (e : SchemaVersion) → IsOurs e (state g old) → IsOurs e (state g new)
  pub survives : Survives (state g old) (state g new) (λ _. ⊥)
