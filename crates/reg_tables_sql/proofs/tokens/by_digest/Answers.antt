use Rattle.reg_tables_sql.proofs.Words.{state, reads_as, may_read}
use Rattle.reg_tables_sql.proofs.TokenQueries.{by_digest, by_digest_is}
use Rattle.reg_tables_sql.proofs.tokens.by_digest.Goals as goal

pub select_one-requires : goal.select_one-requires
select_one-requires g c = may_read _ by_digest_is.plain _ c.requires

pub returns : goal.returns
returns g c = reads_as (state g.S.Store c.args.conn.now) (state g.S.Store c.select_one.new.conn) c.select_one.result c.requires (λ at found h. by_digest (state g.S.Store c.args.conn.now) (state g.S.Store c.select_one.new.conn) c.args.digest.now found at h) (rw (c.params-to_sql.ensures, c.as_slice.ensures) at c.select_one.ensures)
