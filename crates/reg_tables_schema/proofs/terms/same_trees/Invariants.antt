use Rattle.std.proofs.Common.{◌≡◌, take}
use Rattle.sqlite_schema.specs.Code.{terms_in}
use Rattle.reg_tables_schema.proofs.terms.same_trees.Given as goal

abbrev pub invariant-loop-i : goal.invariant-loop-i
invariant-loop-i l = terms_in l.a (take l.i l.roots) ≡ terms_in l.b (take l.i l.others)
