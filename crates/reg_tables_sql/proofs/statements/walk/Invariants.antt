use Rattle.reg_tables_sql.proofs.Words.{◌≡◌, map, bound}
use Rattle.reg_tables_sql.proofs.Walking.{Walks}
use Rattle.reg_tables_sql.proofs.statements.walk.Given as goal

-- the rows so far are in the list
abbrev pub invariant-rows : goal.invariant-rows
invariant-rows g l =
    (l.rows.conn.ghost_name ≡ l.initial.rows.conn.ghost_name)
    × Walks g.S.Store l.text (bound l.params) l.fn.conn l.rows.conn.now (map g.T.FromRow.columns l.list.items)
