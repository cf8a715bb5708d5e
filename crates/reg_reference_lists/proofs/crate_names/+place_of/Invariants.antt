use Rattle.std.proofs.Common.{length}
use Rattle.reg_reference_lists.proofs.crate_names.+place_of.Given as goal

abbrev pub decreases-place_of : goal.decreases-place_of
decreases-place_of l = length l.names.now
