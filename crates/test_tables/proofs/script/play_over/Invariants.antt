use Rattle.reg_tables.specs.Works.{AreOurs}
use Rattle.test_tables.proofs.script.play_over.Given as goal

-- the tables are ours between two transactions
abbrev pub invariant-loop-block : goal.invariant-loop-block
invariant-loop-block g l = AreOurs g.S.Store l.tables
