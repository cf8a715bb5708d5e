-- What a statement answers of the rows that are there.
use Rattle.std.specs.Prelude.{List, Result, Vec}
use Rattle.std.specs.declared.alloc.Global.{Global}
use Rattle.sqlite.specs.Held.{Held}
use Rattle.sqlite.specs.Tree.{Trees}
use Rattle.sqlite_trees.specs.declared.store.Store.{Ghosts}
use Rattle.reg_tables_schema.specs.Statements.{Reads, rows_in}

-- this is true of the rows and of what is answered
abbrev pub Finds : {S T E : Type 0} → Ghosts S → Held S → Held S → Result T E
    → (Trees → T → Type 0) → Type 0
Finds g old new r tells = Reads g old new r (tells (rows_in g old))

-- this is true of the rows and of the list that is answered
abbrev pub Lists : {S T E : Type 0} → Ghosts S → Held S → Held S → Result (Vec T Global) E
    → (Trees → List T → Type 0) → Type 0
Lists g old new r tells = Reads g old new r (λ list. tells (rows_in g old) list.items)
