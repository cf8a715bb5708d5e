use Rattle.std.proofs.Common.{◌≡◌, ◌+◌, drop}
use Rattle.std.specs.Prelude.{map}
use Rattle.reg_audit.specs.Checks.{are_counted}
use Rattle.reg_audit.proofs.texts.are_counted.Given as goal

-- what is left decides
abbrev pub invariant-loop-index : goal.invariant-loop-index
invariant-loop-index g l = are_counted 1 (map g.T.HasId.id_of l.list) ≡ are_counted (l.index + 1) (map g.T.HasId.id_of (drop l.index l.list))
