use Rattle.reg_line.proofs.Words.{◌≡◌, map, take, view, dep_view, dep_data}
use Rattle.reg_line.proofs.values.dep_values.Given as goal

abbrev pub invariant-loop-dep : goal.invariant-loop-dep
invariant-loop-dep l = map view l.values.items ≡ map dep_data (map dep_view (take l.dep-index l.list))
