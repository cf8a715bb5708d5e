use Rattle.reg_access.proofs.Words.{◌≡◌, map, take, flat_map, told_by, told_of}
use Rattle.reg_access.proofs.grants.grants_of.Given as goal

-- what the tokens so far may use
abbrev pub invariant-loop-row : goal.invariant-loop-row
invariant-loop-row l = map told_of l.list.items ≡ flat_map (told_by l.owners l.free) (take l.row-index l.rows)
