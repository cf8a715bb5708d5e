use Rattle.reg_search.proofs.Words.{◌≡◌, List, [], Row, HasWalked, WALK_TEXT, AreHits}
use Rattle.reg_search.proofs.searching.walk.Given as goal

-- what is found is found among the rows so far
abbrev pub invariant-rows : goal.invariant-rows
invariant-rows g l =
    (l.rows.conn.ghost_name ≡ l.initial.rows.conn.ghost_name)
    × ((given : List Row)
    × (HasWalked g.S.Store WALK_TEXT.now [] l.fn.conn l.rows.conn.now given × AreHits l.needle l.hidden l.most given l.hits))
