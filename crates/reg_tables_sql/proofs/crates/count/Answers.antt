use Rattle.reg_tables_sql.proofs.Words.{state, reads_as, may_read}
use Rattle.reg_tables_sql.proofs.CrateQueries.{count, count_is}
use Rattle.reg_tables_sql.proofs.crates.count.Goals as goal

pub select_only-requires : goal.select_only-requires
select_only-requires g c = may_read _ count_is.plain _ c.requires

pub returns : goal.returns
returns g c = reads_as (state g.S.Store c.args.conn.now) (state g.S.Store c.select_only.new.conn) c.select_only.result c.requires (λ at n h. count (state g.S.Store c.args.conn.now) (state g.S.Store c.select_only.new.conn) n at h) c.select_only.ensures
