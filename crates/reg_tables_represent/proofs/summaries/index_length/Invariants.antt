use Rattle.reg_tables_represent.proofs.Words.{◌≡◌, map, take, length_in, shown_mark}
use Rattle.reg_tables_represent.proofs.summaries.index_length.Given as goal

-- the lines so far are counted
abbrev pub invariant-loop-mark : goal.invariant-loop-mark
invariant-loop-mark l = l.length ≡ length_in (map shown_mark (take l.mark-index l.marks))
