-- What sending the index file of a crate did.
use Rattle.std.specs.Prelude.{◌≡◌, ◌≢◌, ◌⊎◌, ◌<◌, ◌≤◌, ◌+◌, ◌^◌, ◌++◌, ◌∷◌, ℕ, pos, length, Bool, false, IsTrue, List, [], None, Result, Err, OnOk}
use Rattle.sqlite.specs.Given.{HasGiven, IsEnded}
use Rattle.sqlite.specs.Held.{Held, state}
use Rattle.sqlite.specs.Order.{Row}
use Rattle.sqlite.specs.declared.types.Value.TheVariants.{Int}
use Rattle.sqlite.specs.State.{HasCleanDisk}
use Rattle.sqlite_trees.specs.declared.store.Store.{Ghosts}
use Rattle.reg_model.specs.declared.rule.Rule.TheVariants.{S1}
use Rattle.reg_model.specs.Registry.{Text}
use Rattle.reg_tables_schema.specs.Statements.{rows_in}
use Rattle.reg_body.specs.Sent.{Sink}
use Rattle.reg_api_replies.specs.Texts.{file_head, refusal_text}
use Rattle.reg_tables_sql.specs.Stems.{AreStemsOf, entries_text}
use Rattle.reg_tables_represent.specs.Entries.{entry_row}
use Rattle.reg_tables.specs.declared.tables.Tables.{Tables}
use Rattle.reg_tables.specs.Works.{shown}
use Rattle.reg_service_index.specs.declared.found.FoundFile.{FoundFile}
use Rattle.reg_service_index.specs.declared.fault.IndexFault.{IndexFault}
use Rattle.reg_service_index.specs.declared.fault.IndexFault.TheVariants.{Store}
use Rattle.reg_service_index.specs.Lines.{lines_in}
use Rattle.reg_service_index.specs.Streams.{Streams}

-- the tables were open, and these rows begin those of the crate's index file; at the end they are
-- all of them
pub record BeginsFile {S T E : Type 0} (g : Ghosts S) (id : ℕ) (r : Result T E) (db : Held S)
    (rows : List Row) : Type 0 where
  pub tail : List Row
  pub is_open : IsTrue (state g db).is_open
  pub are : AreStemsOf id (rows_in g db) (rows ++ tail)
  pub all : OnOk r (tail ≡ [])

-- the store failed before anything was sent
abbrev pub IsUnsent : Result ℕ IndexFault → Sink → Sink → Type 0
IsUnsent r old new = (r ≡ Err Store) × (new.calls ≡ old.calls)

-- a text, and the lines of these rows behind it
abbrev pub rows_text : Text → List Row → Text
rows_text front rows = front ++ lines_in rows

-- the lines of these rows were sent behind a text
pub record SendsRows {S : Type 0} (g : Ghosts S) (id : ℕ) (front : Text)
    (r : Result ℕ IndexFault) (writes : ℕ) (db left : Held S) (old new : Sink) : Type 0 where
  pub rows : List Row
  pub sends : Streams r (rows_text front rows) writes old new
  pub begins : HasCleanDisk (state g left) → IsUnsent r old new ⊎ BeginsFile g id r db rows

-- The reply where the store failed before was sent, or a front of it where the writer failed or the
-- calls were used up. Whatever the store does, it does not break off.
pub record SendsNoRoom (close : Bool) (r : Result ℕ IndexFault) (writes : ℕ) (old new : Sink)
    : Type 0 where
  pub sends : Streams r (refusal_text S1 None close false) writes old new
  pub never : ¬ (r ≡ Err Store)

-- these rows end in one that no index file has
abbrev pub EndUnread : List Row → Type 0
EndUnread rows = (front : List Row) × (row : Row) × (rows ≡ front ++ row ∷ [])
    × ((it : Text × Bool) → row ≢ entry_row it)

-- No more of the file could be read: its rows have ended, all given or in a fault of their own; or
-- those given end in one that no index file has, or are more than can be counted.
abbrev pub EndsItself : {S : Type 0} → Ghosts S → ℕ → Held S → Type 0
EndsItself g id h = IsEnded h
    ⊎ ((rows : List Row)
    × (HasCleanDisk (state g h) → HasGiven g entries_text (Int (pos id) ∷ []) h rows)
    × (EndUnread rows ⊎ (2 ^ 64 ≤ 1 + length rows)))

-- the tables were open, and these are the rows of the file
pub record AreRows {S : Type 0} (g : Ghosts S) (f : FoundFile) (db : Tables S) (rows : List Row)
    : Type 0 where
  pub is_open : IsTrue (shown g db).is_open
  pub are : AreStemsOf f.crate_id (shown g db).now.trees rows

-- they were sent behind the head of the file
pub record SendsFile {S : Type 0} (g : Ghosts S) (f : FoundFile) (close : Bool)
    (r : Result ℕ IndexFault) (writes : ℕ) (db : Tables S) (old new : Sink) : Type 0 where
  pub rows : List Row
  pub of_file : AreRows g f db rows
  pub sends : Streams r (rows_text (file_head f.length close) rows) writes old new

-- the text is their lines
abbrev pub IsFileText : {S : Type 0} → Ghosts S → FoundFile → Tables S → Text → Type 0
IsFileText g f db text = (rows : List Row) × AreRows g f db rows × (text ≡ lines_in rows)

-- a text was sent that is not empty, whatever the disk
abbrev pub SendsSome : Result ℕ IndexFault → ℕ → Sink → Sink → Type 0
SendsSome r writes old new = (text : Text) × (0 < length text) × Streams r text writes old new
