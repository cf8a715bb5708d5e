use Rattle.std.proofs.Common.{length}
use Rattle.reg_reference.proofs.reports.+push_readers.Given as goal

abbrev pub decreases-push_readers : goal.decreases-push_readers
decreases-push_readers l = length l.accounts.now
