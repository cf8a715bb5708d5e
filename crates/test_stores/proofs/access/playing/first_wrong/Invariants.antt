use Rattle.std.proofs.Common.{◌≡◌}
use Rattle.reg_tables.specs.Works.{IsActive}
use Rattle.test_stores.proofs.access.playing.first_wrong.Given as goal

-- the transaction goes on, of the same tables
abbrev pub invariant-loop-line : goal.invariant-loop-line
invariant-loop-line g l = IsActive g.S.Store l.work × (l.work.tables.ghost_name ≡ l.fn.work.tables.ghost_name)
