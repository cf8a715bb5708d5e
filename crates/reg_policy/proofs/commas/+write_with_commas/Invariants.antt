use Rattle.std.proofs.Common.{length}
use Rattle.reg_policy.proofs.commas.+write_with_commas.Given as goal

abbrev pub decreases-write_with_commas : goal.decreases-write_with_commas
decreases-write_with_commas g l = length l.words.now
