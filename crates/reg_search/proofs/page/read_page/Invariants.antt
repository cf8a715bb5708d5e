use Rattle.reg_search.proofs.Words.{Ok, take, state, HasCleanDisk, Error, rows_in, IsRead, ShowsCrates}
use Rattle.reg_search.proofs.page.read_page.Given as goal

-- the crates before the index are shown
abbrev pub invariant-loop-id : goal.invariant-loop-id
invariant-loop-id g l =
    (HasCleanDisk (state g.S.Store l.conn) → ShowsCrates (take l.id-index l.ids) (rows_in g.S.Store l.fn.conn) l.hits.items)
    × IsRead {E = Error} g.S.Store (Ok (tt {0})) l.fn.conn l.conn
