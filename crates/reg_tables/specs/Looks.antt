-- What a function that only reads leaves of a transaction of our tables.
use Rattle.std.specs.Prelude.{◌≡◌}
use Rattle.sqlite_trees.specs.declared.store.Store.{Ghosts}
use Rattle.sqlite.specs.State.{HasCleanDisk, KeepsCommit, Survives}
use Rattle.reg_tables.specs.Works.{IsActive, edition_in, is_stopped, seen}
use Rattle.reg_tables.specs.declared.work.Work.{Work}

-- the same tables, in a transaction, and nothing is committed
pub record Looks {S : Type 0} (g : Ghosts S) (old new : Work S) : Type 0 where
  pub same_reference : new.tables.ghost_name ≡ old.tables.ghost_name
  pub same_edition : edition_in new.tables.now ≡ edition_in old.tables.now
  pub same_mode : is_stopped new.tables.now ≡ is_stopped old.tables.now
  pub at_work : IsActive g new
  pub kept : HasCleanDisk (seen g new) → KeepsCommit (seen g old) (seen g new)
  pub survives : Survives (seen g old) (seen g new) (λ _. ⊥)
