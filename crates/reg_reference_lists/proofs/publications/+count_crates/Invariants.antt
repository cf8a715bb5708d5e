use Rattle.std.proofs.Common.{length}
use Rattle.reg_reference_lists.proofs.publications.+count_crates.Given as goal

abbrev pub decreases-count_crates : goal.decreases-count_crates
decreases-count_crates l = length l.list.now
