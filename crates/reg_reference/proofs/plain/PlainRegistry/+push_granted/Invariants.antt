use Rattle.std.proofs.Common.{length}
use Rattle.reg_reference.proofs.plain.PlainRegistry.+push_granted.Given as goal

abbrev pub decreases-push_granted : goal.decreases-push_granted
decreases-push_granted l = length l.endpoints.now
