use Rattle.reg_tables_sql.proofs.Words.{Ok, state, writes_as}
use Rattle.reg_tables_sql.proofs.RestrictedTexts.{deletes, remove_writes}
use Rattle.reg_tables_sql.proofs.restricted.remove.Goals as goal

pub write-requires-clause-writes : goal.write-requires-clause-writes
write-requires-clause-writes g c = remove_writes

pub returns : goal.returns
returns g c =
    writes_as (state g.S.Store c.args.conn.now) (state g.S.Store c.write.new.conn) c.write.result c.requires (λ at h. deletes (state g.S.Store c.args.conn.now) (state g.S.Store c.write.new.conn) c.args.crate_id (Ok h.0) at h.1) (rw c.params-to_sql.ensures at c.write.ensures)
