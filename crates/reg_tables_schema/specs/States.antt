-- A connection to our tables, before and after a statement.
-- Each word on values stands under `HasCleanDisk`: of a disk that returned what was never written,
-- nothing is said.
use Rattle.std.specs.Prelude.{◌≡◌, ◌≢◌, ◌⊎◌, ℕ, pos, true, false, List, [], ◌∷◌, map, drop, IsTrue, Result, OnOk, OnErr}
use Rattle.std.specs.List.{AllByRecursion}
use Rattle.sqlite.specs.Effect.{Database}
use Rattle.sqlite.specs.Tree.{Trees}
use Rattle.sqlite.specs.Order.{Row}
use Rattle.sqlite.specs.declared.types.Value.TheVariants.{Int, Text}
use Rattle.sqlite.specs.Schema.{Schema}
use Rattle.sqlite.specs.State.{State, HasCleanDisk, IsUnchanged, IsRolledBack}
use Rattle.sqlite_catalog.specs.Listing.{IsSound}
use Rattle.reg_tables_schema.specs.declared.edition.SchemaVersion.{SchemaVersion}
use Rattle.reg_tables_schema.specs.declared.edition.SchemaVersion.TheVariants.{Second}
use Rattle.reg_tables_schema.specs.Schema.{ours, our_tables, old_tables, schema_of, number_of}
use Rattle.reg_tables_schema.specs.Places.{restricted_tree, readers_tree}

-- tables of this schema, in a transaction
pub record IsInsideWith (schema : Schema) (s : State) : Type 0 where
  pub schema_is : s.now.schema ≡ schema
  pub is_open : IsTrue s.is_open
  pub inside : s.in_transaction ≡ true

-- tables of this edition, in a transaction
abbrev pub IsInsideOf : SchemaVersion → State → Type 0
IsInsideOf e s = IsInsideWith (schema_of e) s

abbrev pub IsInside : State → Type 0
IsInside s = IsInsideOf Second s

-- what a statement of a transaction asks
abbrev pub IsReadyOf : SchemaVersion → State → Type 0
IsReadyOf e s = HasCleanDisk s → IsInsideOf e s

abbrev pub IsReady : State → Type 0
IsReady s = IsReadyOf Second s

-- a database that lists this edition's tables and obeys their schema
abbrev pub HasSchema : SchemaVersion → Trees → Type 0
HasSchema e db = IsSound (schema_of e) db

-- whatever a crash leaves at this moment is of this edition
abbrev pub LeavesOurs : SchemaVersion → State → Type 0
LeavesOurs e s = HasCleanDisk s → (db : Trees) → s.may_leave db → HasSchema e db

-- what a transaction goes back to is of this edition
abbrev pub GoesBack : SchemaVersion → State → Type 0
GoesBack e s = HasCleanDisk s → IsTrue s.is_open → s.committed.schema ≡ schema_of e

-- tables of this edition, in no transaction
pub record Rests (e : SchemaVersion) (s : State) : Type 0 where
  pub committed_is : s.committed.schema ≡ schema_of e
  pub autocommit : s.in_transaction ≡ false
  pub settled : s.now ≡ s.committed

-- what is true between any two transactions; a connection that is shut shows nothing
abbrev pub IsOurs : SchemaVersion → State → Type 0
IsOurs e s = HasCleanDisk s → IsTrue s.is_open → Rests e s

-- what a statement that failed leaves: all is as it was, or the transaction is undone
abbrev pub Refuses : State → State → Type 0
Refuses old new = IsUnchanged old new ⊎ IsRolledBack old new

-- no transaction is open, and what was not committed is undone
pub record IsUndone (old new : State) : Type 0 where
  pub was_open : IsTrue new.is_open → IsTrue old.is_open
  pub undone : IsTrue new.is_open → (new.now ≡ old.committed) × (new.committed ≡ old.committed)
  pub autocommit : new.in_transaction ≡ false

-- no transaction is open, and what is seen is what was committed
pub record IsAtRest (s : State) : Type 0 where
  pub is_open : IsTrue s.is_open
  pub autocommit : s.in_transaction ≡ false
  pub settled : s.now ≡ s.committed

-- a schema whose tables have no rows yet
pub record IsEmpty (schema : Schema) (db : Database) : Type 0 where
  pub schema_is : db.schema ≡ schema
  pub empty : AllByRecursion (λ t. db.trees t.tree ≡ []) schema.tables

-- it is so, in a transaction
pub record HasMade (schema : Schema) (s : State) : Type 0 where
  pub made : IsEmpty schema s.now
  pub is_open : IsTrue s.is_open
  pub inside : s.in_transaction ≡ true

-- the tables of this schema are made, and nothing is committed
pub record Makes (schema : Schema) (old new : State) : Type 0 where
  pub has : HasMade schema new
  pub committed : new.committed ≡ old.committed

-- a table is made at this tree: it has no rows yet, and the others have the rows that they had
pub record Grows (before after : Schema) (tree : ℕ) (old new : State) : Type 0 where
  pub kept : AllByRecursion (λ t. new.now.trees t.tree ≡ old.now.trees t.tree) before.tables
  pub empty : new.now.trees tree ≡ []
  pub committed : new.committed ≡ old.committed
  pub inside : IsInsideWith after new

-- schema 1 is made schema 2: the tables that are there keep their rows, and the new ones have none
pub record Extends (old new : State) : Type 0 where
  pub kept : AllByRecursion (λ t. new.now.trees t.tree ≡ old.now.trees t.tree) old_tables
  pub restricted : new.now.trees restricted_tree ≡ []
  pub readers : new.now.trees readers_tree ≡ []
  pub committed : new.committed ≡ old.committed
  pub inside : IsInside new

-- the columns of the one row of `about`: the number of the schema, and the base
abbrev pub about_columns : SchemaVersion → List ℕ → Row
about_columns e base = Int (pos (number_of e)) ∷ Text base ∷ []

-- a registry of this base with nothing in it
pub record IsMade (base : List ℕ) (db : Database) : Type 0 where
  pub schema_is : db.schema ≡ ours
  pub sound : HasSchema Second db.trees
  pub about : map (drop 1) (db.trees 0) ≡ about_columns Second base ∷ []
  pub empty : AllByRecursion (λ t. t.tree ≢ 0 → db.trees t.tree ≡ []) our_tables

-- a crash at this moment leaves the last commit and nothing else
abbrev pub LeavesCommit : State → Type 0
LeavesCommit s = (db : Trees) → s.may_leave db → db ≡ s.committed.trees

-- what a query leaves, whatever it answers: all is as it was, but for what a failure leaves
abbrev pub OnlyReads : {T E : Type 0} → Result T E → State → State → Type 0
OnlyReads r old new = OnOk r (IsUnchanged old new) × OnErr r (Refuses old new)
