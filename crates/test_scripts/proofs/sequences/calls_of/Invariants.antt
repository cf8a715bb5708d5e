use Rattle.std.specs.List.{AllByRecursion}
use Rattle.reg_service.specs.Sequences.{IsFitCall}
use Rattle.test_scripts.proofs.sequences.calls_of.Given as goal

-- what was read so far is fit
abbrev pub invariant-loop-part : goal.invariant-loop-part
invariant-loop-part l = AllByRecursion IsFitCall l.calls.items
