use Rattle.std.proofs.Common.{length}
use Rattle.reg_reference.proofs.search.+occurs.Given as goal

abbrev pub decreases-occurs : goal.decreases-occurs
decreases-occurs l = length l.text.now
