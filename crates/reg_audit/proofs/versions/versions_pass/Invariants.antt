use Rattle.reg_audit.proofs.Words.{take, IsGenuine}
use Rattle.std.specs.List.{AllByRecursion}
use Rattle.reg_audit.proofs.versions.versions_pass.Given as goal

abbrev pub invariant-loop-version : goal.invariant-loop-version
invariant-loop-version l = AllByRecursion (IsGenuine l.rows) (take l.version-index l.rows.versions.items)
