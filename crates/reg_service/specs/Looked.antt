-- Calls that only look at the tables of a registry, and what they tell.
use Rattle.std.specs.Prelude.{◌≡◌, ◌⊎◌, ℕ, length, map, true, IfOk, IsTrue, Option, Result, String, Vec, string_bytes}
use Rattle.std.specs.declared.alloc.Global.{Global}
use Rattle.sqlite.specs.State.{HasCleanDisk}
use Rattle.sqlite.specs.Tree.{Trees}
use Rattle.sqlite_trees.specs.declared.store.Store.{Ghosts}
use Rattle.reg_audit.specs.Checks.{IsFirst}
use Rattle.reg_audit.specs.declared.check.Check.{Check}
use Rattle.reg_model.specs.Crates.{crates, exported}
use Rattle.reg_model.specs.Registry.{Registry}
use Rattle.reg_model.specs.Trail.{opened}
use Rattle.reg_service_commands.specs.Exported.{texts_of}
use Rattle.reg_tables_rows.specs.declared.all_rows.AllRows.{AllRows}
use Rattle.reg_tables_rows.specs.declared.counts.Counts.{Counts}
use Rattle.reg_tables_rows.specs.WholeRows.{AreAllRows}
use Rattle.reg_tables.specs.declared.tables.Tables.{Tables}
use Rattle.reg_tables.specs.Works.{is_stopped, shown}
use Rattle.reg_service.specs.Answered.{AreUpToDate, StandsIn}

-- The tables are only looked at: they hold the registry that they held, and a crash leaves nothing
-- that it could not leave before.
pub record Looked {S : Type 0} (g : Ghosts S) (old new : Tables S) : Type 0 where
  pub shows : HasCleanDisk (shown g new) → (s : Registry) → StandsIn s (shown g old)
      → StandsIn s (shown g new)
  pub left : HasCleanDisk (shown g new) → (db : Trees) → (shown g new).may_leave db
      → (shown g old).may_leave db
  pub tables : AreUpToDate g new
  pub clean : HasCleanDisk (shown g new) → HasCleanDisk (shown g old)
  pub same_mode : is_stopped new ≡ is_stopped old

-- whatever registry the tables held, what is answered is true of it
abbrev pub IsTrueOf : {S T E : Type 0} → Ghosts S → (Registry → T → Type 0) → Result T E
    → Tables S → Tables S → Type 0
IsTrueOf g tells r old new =
    HasCleanDisk (shown g new) → (s : Registry) → StandsIn s (shown g old) → IfOk r (tells s)

-- these are the files of the index, each behind its path
abbrev pub IsIndex : Registry → Vec (String Global × Vec ℕ Global) Global → Type 0
IsIndex s files = map texts_of files.items ≡ exported s

-- these are the numbers of its accounts, tokens, crates and publications
abbrev pub AreCounted : Registry → Counts → Type 0
AreCounted s n = (n.accounts ≡ length s.accounts) × (n.tokens ≡ length s.tokens)
    × (n.crates ≡ crates s) × (n.publications ≡ length s.publications)

-- this is the mark of its opening
abbrev pub IsMark : Registry → String Global → Type 0
IsMark s line = string_bytes line ≡ opened s

-- It was tried whether the store answers: the connection is open, or the tables have stopped, and
-- stay so. They hold the registry that they held, and a crash leaves nothing that it could not
-- leave before.
pub record WasTried {S : Type 0} (g : Ghosts S) (old new : Tables S) : Type 0 where
  pub known : HasCleanDisk (shown g new)
      → IsTrue (shown g new).is_open ⊎ (is_stopped new ≡ true)
  pub stays : is_stopped old ≡ true → is_stopped new ≡ true
  pub shows : HasCleanDisk (shown g new) → (s : Registry) → StandsIn s (shown g old)
      → StandsIn s (shown g new)
  pub left : HasCleanDisk (shown g new) → (db : Trees) → (shown g new).may_leave db
      → (shown g old).may_leave db
  pub tables : AreUpToDate g new
  pub clean : HasCleanDisk (shown g new) → HasCleanDisk (shown g old)

-- this check of the rows fails first; where there is none, all pass
abbrev pub FailsFirst : {S : Type 0} → Ghosts S → Tables S → Option Check → Type 0
FailsFirst g t found = let db = (shown g t).now.trees in
    (it : AllRows) × AreAllRows it db × IsFirst it db found
