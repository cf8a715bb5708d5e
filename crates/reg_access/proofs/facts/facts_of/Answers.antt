use Rattle.std.proofs.Common.{rules}
use Rattle.reg_access.proofs.facts.facts_of.Goals as goal

pub returns-clause-access : goal.returns-clause-access
returns-clause-access c = search rules
