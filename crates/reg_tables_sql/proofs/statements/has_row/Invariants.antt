use Rattle.reg_tables_sql.proofs.Words.{◌≡◌, List, length, Row, bound}
use Rattle.reg_tables_sql.proofs.Walking.{Walks}
use Rattle.reg_tables_sql.proofs.statements.has_row.Given as goal

-- so many rows were given
abbrev pub invariant-rows : goal.invariant-rows
invariant-rows g l =
    (l.rows.conn.ghost_name ≡ l.initial.rows.conn.ghost_name)
    × ((given : List Row) × (length given ≡ l.count) × Walks g.S.Store l.text (bound l.params) l.fn.conn l.rows.conn.now given)
