use Rattle.std.proofs.Common.{arith}
use Rattle.reg_body.proofs.FrameFacts.{same_parts}
use Rattle.reg_body.proofs.laws.wider_law.Goals as goal

pub returns-clause-accepts : goal.returns-clause-accepts
returns-clause-accepts c l m b j a json archive it = (it.0, (omega (arith, json, it.1.0), omega (arith, archive, it.1.1)))

pub returns-clause-same : goal.returns-clause-same
returns-clause-same c l m b j a k d one other = same_parts b k d j a other.0 one.0
