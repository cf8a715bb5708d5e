use Rattle.reg_tables_sql.proofs.Words.{state, writes_as}
use Rattle.reg_tables_sql.proofs.AccountTexts.{enables, enable_is}
use Rattle.reg_tables_sql.proofs.accounts.enable.Goals as goal

pub write-requires-clause-writes : goal.write-requires-clause-writes
write-requires-clause-writes g c = enable_is.writing

pub returns : goal.returns
returns g c =
    writes_as (state g.S.Store c.args.conn.now) (state g.S.Store c.write.new.conn) c.write.result c.requires (λ at h. enables (state g.S.Store c.args.conn.now) (state g.S.Store c.write.new.conn) c.args.id c.args.enabled h.0 at h.1) (rw (c.params-to_sql.ensures, c.params-to_sql-2.ensures) at c.write.ensures)
