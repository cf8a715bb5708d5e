use Rattle.std.proofs.Common.{◌≡◌, length}
use Rattle.test_support.proofs.scarce_memory.Amounts.new.Given as goal

abbrev pub invariant-loop-k : goal.invariant-loop-k
invariant-loop-k l = length l.steps.items ≡ l.k
