use Rattle.std.proofs.Common.{length}
use Rattle.reg_reference.proofs.plain.PlainRegistry.+push_grants.Given as goal

abbrev pub decreases-push_grants : goal.decreases-push_grants
decreases-push_grants l = length l.tokens.now
