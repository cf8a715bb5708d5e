use Rattle.std.proofs.Common.{rules}
use Rattle.reg_body.proofs.counted.Counted.failures.Goals as goal

pub returns : goal.returns
returns g c = search rules
