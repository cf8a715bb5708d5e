use Rattle.reg_search.proofs.Words.{◌≡◌, map, bound, HasWalked}
use Rattle.reg_search.proofs.records.read_all.Given as goal

-- the rows so far are in the list
abbrev pub invariant-rows : goal.invariant-rows
invariant-rows g l =
    (l.rows.conn.ghost_name ≡ l.initial.rows.conn.ghost_name)
    × HasWalked g.S.Store l.text (bound l.params) l.fn.conn l.rows.conn.now (map g.T.FromRow.columns l.list.items)
