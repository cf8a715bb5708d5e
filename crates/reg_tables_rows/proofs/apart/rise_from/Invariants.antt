use Rattle.reg_tables_rows.proofs.Words.{◌∷◌, drop, ◌↔◌, int_cmp}
use Rattle.std.specs.List.Sorted.{IsStrictlySortedBy}
use Rattle.reg_tables_rows.proofs.apart.rise_from.Given as goal

-- what is left decides
abbrev pub invariant-loop-id : goal.invariant-loop-id
invariant-loop-id l = IsStrictlySortedBy int_cmp (l.first ∷ l.rest) ↔ IsStrictlySortedBy int_cmp (l.last ∷ drop l.id-index l.rest)
