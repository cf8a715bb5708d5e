-- The tables and a transaction of them, as a caller sees them.
use Rattle.std.specs.Prelude.{◌≡◌, ◌⊎◌, Bool, true, false, IsTrue, Result, IfOk, OnOk, OnErr, refl}
use Rattle.std.specs.Coded.{Coded, code_by, coded×, coded_bool}
use Rattle.sqlite_trees.specs.declared.store.Store.{Ghosts}
use Rattle.sqlite.specs.Held.{Held, held_code, state}
use Rattle.sqlite.specs.State.{State, HasCleanDisk, IsUnchanged, Survives}
use Rattle.sqlite.specs.Tree.{Trees}
use Rattle.reg_tables_schema.specs.declared.edition.SchemaVersion.{SchemaVersion}
use Rattle.reg_tables_schema.specs.contracts.edition.SchemaVersion as edition
use Rattle.reg_tables_schema.specs.States.{GoesBack, IsReady, IsOurs, IsUndone, Refuses}
use Rattle.reg_tables_schema.specs.Steps.{Fails, Within}
use Rattle.reg_tables.specs.declared.tables.Tables.{Tables}
use Rattle.reg_tables.specs.declared.work.Work.{Work}

-- tables are told by their connection, its schema, and whether they have stopped
abbrev pub tables_code : {S : Type 0} → Coded S → Coded (Tables S)
tables_code {S} store =
    code_by (Held S × (SchemaVersion × Bool))
    (coded× (held_code store) (coded× edition.the_row.coded coded_bool))
    (λ t. (t.conn, (t.edition, t.shut)))
    (λ p. record { conn = p.0; edition = p.1.0; shut = p.1.1 })
    (λ _. refl)

-- the connection of the tables
abbrev pub held : {S : Type 0} → Tables S → Held S
held t = t.conn

-- what it shows
abbrev pub shown : {S : Type 0} → Ghosts S → Tables S → State
shown g t = state g (held t)

-- a commit was refused, or the store was found closed: the tables answer nothing more
abbrev pub is_stopped : {S : Type 0} → Tables S → Bool
is_stopped t = t.shut

-- the tables in a transaction
abbrev pub seen : {S : Type 0} → Ghosts S → Work S → State
seen g w = shown g w.tables.now

-- a call has failed: nothing of the transaction will be kept
abbrev pub has_failed : {S : Type 0} → Work S → Bool
has_failed w = w.failed

-- which schema the store has, as long as nothing is committed
abbrev pub edition_in : {S : Type 0} → Tables S → SchemaVersion
edition_in t = t.edition

-- a connection to our tables
abbrev pub AreOurs : {S : Type 0} → Ghosts S → Tables S → Type 0
AreOurs g t = IsOurs (edition_in t) (shown g t)

-- a transaction of our tables, which sees schema 2; once a call has failed it may be undone already
pub record IsActive {S : Type 0} (g : Ghosts S) (w : Work S) : Type 0 where
  pub back : GoesBack (edition_in w.tables.now) (seen g w)
  pub ready : has_failed w ≡ false → IsReady (seen g w)

-- the tables where no transaction was begun
pub record IsLeft {S : Type 0} (g : Ghosts S) (old new : Tables S) : Type 0 where
  pub refused : HasCleanDisk (shown g new) → (held new ≡ held old) ⊎ Refuses (shown g old)
      (shown g new)
  pub ours : AreOurs g new
  pub edition : edition_in new ≡ edition_in old
  pub shut : is_stopped new ≡ is_stopped old
  pub survives : Survives (shown g old) (shown g new) (λ _. ⊥)

-- the connection of the tables as it was, or with nothing but what was committed
abbrev pub IsSame : {S : Type 0} → Ghosts S → Tables S → Tables S → Type 0
IsSame g old new = (held new ≡ held old) ⊎ IsUndone (shown g old) (shown g new)

-- the tables where no transaction was begun, or one was undone at once
pub record IsKept {S : Type 0} (g : Ghosts S) (old new : Tables S) : Type 0 where
  pub refused : HasCleanDisk (shown g new) → IsSame g old new
  pub ours : AreOurs g new
  pub edition : edition_in new ≡ edition_in old
  pub shut : is_stopped new ≡ is_stopped old
  pub survives : Survives (shown g old) (shown g new) (λ _. ⊥)

-- the tables once it was tried whether their store answers: where it does not, they are shut
pub record IsTried {S : Type 0} (g : Ghosts S) (old new : Tables S) : Type 0 where
  pub known : HasCleanDisk (shown g new)
      → IsTrue (shown g new).is_open ⊎ (is_stopped new ≡ true)
  pub stays : is_stopped old ≡ true → is_stopped new ≡ true
  pub same : HasCleanDisk (shown g new) → IsSame g old new
  pub ours : AreOurs g new
  pub edition : edition_in new ≡ edition_in old
  pub survives : Survives (shown g old) (shown g new) (λ _. ⊥)

-- what a call in a transaction leaves: its changes are within it, and nothing is committed;
-- a fault ends it, and a crash leaves what it could leave before
pub record KeepsFrame {S T E : Type 0} (g : Ghosts S) (r : Result T E) (old new : Work S)
    : Type 0 where
  pub same_reference : new.tables.ghost_name ≡ old.tables.ghost_name
  pub same_edition : edition_in new.tables.now ≡ edition_in old.tables.now
  pub same_mode : is_stopped new.tables.now ≡ is_stopped old.tables.now
  pub at_work : IsActive g new
  pub went_on : OnOk r ((has_failed old ≡ false) × (has_failed new ≡ false))
  pub ended : OnErr r (has_failed new ≡ true)
  pub within : HasCleanDisk (seen g new) → OnOk r (Within (seen g old) (seen g new))
  pub failed : HasCleanDisk (seen g new) → OnErr r (Fails (seen g old) (seen g new))
  pub survives : Survives (seen g old) (seen g new) (λ _. ⊥)

-- the rows that a transaction sees, by the tree of their table
abbrev pub rows_seen : {S : Type 0} → Ghosts S → Work S → Trees
rows_seen g w = (seen g w).now.trees

-- this is true of what a call answers, and this where it answers
abbrev pub OnAnswer : {S T E : Type 0} → Ghosts S → Work S → Result T E → (T → Type 0) → Type 0
OnAnswer g w r tells = HasCleanDisk (seen g w) → IfOk r tells

-- where it answers, all is as it was
abbrev pub Unmoved : {S T E : Type 0} → Ghosts S → Result T E → Work S → Work S → Type 0
Unmoved g r old new = HasCleanDisk (seen g new) → OnOk r (IsUnchanged (seen g old) (seen g new))
