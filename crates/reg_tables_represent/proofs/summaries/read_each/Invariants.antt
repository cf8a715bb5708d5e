use Rattle.reg_tables_represent.proofs.Words.{◌≡◌, map, take, read_mark, shown_mark}
use Rattle.reg_tables_represent.proofs.summaries.read_each.Given as goal

-- the versions so far are read
abbrev pub invariant-loop-mark : goal.invariant-loop-mark
invariant-loop-mark l = l.releases.items ≡ map (λ m. read_mark (shown_mark m)) (take l.mark-index l.marks)
