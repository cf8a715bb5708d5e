use Rattle.std.proofs.Common.{length}
use Rattle.reg_reference.proofs.reports.+push_users.Given as goal

abbrev pub decreases-push_users : goal.decreases-push_users
decreases-push_users l = length l.accounts.now
