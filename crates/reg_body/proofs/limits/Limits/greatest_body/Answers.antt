use Rattle.std.proofs.Common.{rules}
use Rattle.reg_body.proofs.limits.Limits.greatest_body.Goals as goal

pub returns-clause-value : goal.returns-clause-value
returns-clause-value c = search rules
