-- The connection of the tables, on loan to one who reads.
use Rattle.std.specs.Borrow.{Lends, RattleType, MutBor, Fml}
use Rattle.sqlite_trees.specs.declared.store.Store.{Ghosts}
use Rattle.sqlite.specs.Held.{Held}
use Rattle.sqlite.specs.contracts.connection.Connection as connection
use Rattle.reg_tables.specs.declared.tables.Tables.{Tables}
use Rattle.reg_tables.specs.contracts.tables.Tables.{the_row}

-- once nothing is read any more the tables are the same but for their connection, which is as the
-- reading left it
abbrev pub LendsConnection : (S : RattleType) (g : Ghosts S.Denot) → MutBor (Tables S.Denot)
    → MutBor (Held S.Denot) → Fml
LendsConnection S g t r = Lends (the_row S g) (connection.the_row S g) t r
    (λ w. record t.now { conn = w })
