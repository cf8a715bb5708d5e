use Rattle.std.proofs.Common.{◌≡◌, map}
use Rattle.reg_tables_sql.proofs.records.read_all.Given as goal

abbrev pub invariant-loop-row : goal.invariant-loop-row
invariant-loop-row g l = map g.T.FromRow.columns l.list.items ≡ l.yielded
