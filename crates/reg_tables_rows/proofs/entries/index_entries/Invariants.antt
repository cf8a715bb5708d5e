use Rattle.reg_tables_rows.proofs.Words.{◌≡◌, map, pos, ◌∷◌, [], Int, columns_of_stem, entries_text}
use Rattle.reg_tables_represent.specs.Walks.{HasWalked}
use Rattle.reg_tables_rows.proofs.entries.index_entries.Given as goal

-- the rows so far are in the list
abbrev pub invariant-rows : goal.invariant-rows
invariant-rows g l =
    (l.rows.conn.ghost_name ≡ l.initial.rows.conn.ghost_name)
    × HasWalked g.S.Store entries_text (Int (pos l.crate_id) ∷ []) l.fn.conn l.rows.conn.now (map columns_of_stem l.list.items)
