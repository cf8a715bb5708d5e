use Rattle.test_support.proofs.scarce_memory.+grow_stack.Given as goal

abbrev pub decreases-grow_stack : goal.decreases-grow_stack
decreases-grow_stack l = l.depth
