-- What an opening finds, and the registry that a task on a store begins with.
use Rattle.std.specs.Prelude.{IsTrue}
use Rattle.sqlite.specs.Held.{Held, state}
use Rattle.sqlite.specs.State.{HasCleanDisk, State}
use Rattle.sqlite.specs.Tree.{Trees}
use Rattle.sqlite_trees.specs.declared.store.Store.{Ghosts}
use Rattle.reg_model.specs.Registry.{Registry}
use Rattle.reg_service.specs.Answered.{HoldsRegistry, StandsIn}
use Rattle.reg_service.specs.Registries.{IsNew, Running, limits_of, tables_of}
use Rattle.reg_tables.specs.Works.{shown}
use Rattle.reg_cli.specs.declared.using.FileTask.{FileTask}
use Rattle.reg_cli.specs.declared.using.FileTask.TheVariants.{Make}

-- what is found in the files that a connection had is what a crash could leave of it
abbrev pub FindsLeft : State → State → Type 0
FindsLeft old new = HasCleanDisk new
    → HasCleanDisk old × IsTrue new.is_open × old.may_leave new.now.trees

-- whatever registry these rows are, it is the one that is held
abbrev pub HoldsSame : {S : Type 0} → Ghosts S → Trees → Running S → Type 0
HoldsSame g db r = HasCleanDisk (shown g (tables_of r)) → (s : Registry) → HoldsRegistry s db
    → StandsIn s (shown g (tables_of r))

-- the registry that a task begins with: a new one, or that of the store
abbrev pub BeginsOn : {S : Type 0} → Ghosts S → Held S → FileTask → Running S → Type 0
BeginsOn g conn (Make base) r = IsNew g base.now (limits_of r) r
BeginsOn g conn _ r = HoldsSame g (state g conn).now.trees r
