use Rattle.std.proofs.Common.{◌≡◌}
use Rattle.reg_tables.specs.Works.{IsActive}
use Rattle.test_stores.proofs.access.pairs.all_answers.Given as goal

-- the transaction goes on, of the same tables
abbrev pub invariant-loop-number : goal.invariant-loop-number
invariant-loop-number g l = IsActive g.S.Store l.work × (l.work.tables.ghost_name ≡ l.fn.work.tables.ghost_name)
