use Rattle.std.proofs.Common.{length}
use Rattle.reg_reference.proofs.plain.PlainRegistry.+push_tokens.Given as goal

abbrev pub decreases-push_tokens : goal.decreases-push_tokens
decreases-push_tokens l = length l.tokens.now
