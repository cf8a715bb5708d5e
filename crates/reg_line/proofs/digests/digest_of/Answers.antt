use Rattle.std.proofs.Common.{rules}
use Rattle.reg_line.proofs.digests.digest_of.Goals as goal

pub returns : goal.returns
returns c = search rules
