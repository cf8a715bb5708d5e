use Rattle.reg_line.proofs.Words.{◌≡◌, map, drop, each, dep_view}
use Rattle.serde_json.specs.View.{items_view}
use Rattle.reg_line.specs.LineRead.{dep_from}
use Rattle.reg_line.proofs.After.{after}
use Rattle.reg_line.proofs.line_read.read_deps.Given as goal

abbrev pub invariant-loop-value : goal.invariant-loop-value
invariant-loop-value l = after (map dep_view l.deps.items) (each dep_from (items_view (drop l.value-index l.list))) ≡ each dep_from (items_view l.list)
