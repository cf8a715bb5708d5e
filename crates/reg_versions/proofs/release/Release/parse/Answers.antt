use Rattle.std.proofs.Common.{rules}
use Rattle.reg_versions.proofs.release.Release.parse.Goals as goal

pub returns-in-Ok-clause-ok : goal.returns-in-Ok-clause-ok
returns-in-Ok-clause-ok c = search rules
