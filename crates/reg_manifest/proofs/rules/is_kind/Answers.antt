use Rattle.std.proofs.Common.{rules}
use Rattle.reg_manifest.proofs.rules.is_kind.Goals as goal

pub returns-else-eq-2 : goal.returns-else-eq-2
returns-else-eq-2 c = search rules
