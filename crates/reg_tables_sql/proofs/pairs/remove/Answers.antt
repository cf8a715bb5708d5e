use Rattle.reg_tables_sql.proofs.Words.{Ok, state, writes_as}
use Rattle.reg_tables_sql.proofs.Relations.{remove_writes, removes}
use Rattle.reg_tables_sql.proofs.pairs.remove.Goals as goal

pub write-requires-clause-writes : goal.write-requires-clause-writes
write-requires-clause-writes g c = rw c.texts.ensures.remove (remove_writes c.args.relation)

pub returns : goal.returns
returns g c =
    writes_as (state g.S.Store c.args.conn.now) (state g.S.Store c.write.new.conn) c.write.result c.requires (λ at h. removes (state g.S.Store c.args.conn.now) (state g.S.Store c.write.new.conn) c.args.pair.crate_id c.args.pair.account (Ok h.0) at c.args.relation h.1) (rw (c.texts.ensures.remove, c.params-to_sql.ensures, c.params-to_sql-2.ensures) at c.write.ensures)
