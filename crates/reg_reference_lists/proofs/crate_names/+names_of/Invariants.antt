use Rattle.std.proofs.Common.{length}
use Rattle.reg_reference_lists.proofs.crate_names.+names_of.Given as goal

abbrev pub decreases-names_of : goal.decreases-names_of
decreases-names_of l = length l.list.now
