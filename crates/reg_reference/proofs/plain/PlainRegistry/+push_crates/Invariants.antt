use Rattle.std.proofs.Common.{length}
use Rattle.reg_reference.proofs.plain.PlainRegistry.+push_crates.Given as goal

abbrev pub decreases-push_crates : goal.decreases-push_crates
decreases-push_crates l = length l.names.now
