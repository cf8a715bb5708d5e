use Rattle.reg_search.proofs.Words.{refl, Second}
use Rattle.reg_search.proofs.Texts.{hidden_is}
use Rattle.reg_search.proofs.Told.{hidden_told}
use Rattle.reg_search.proofs.hidden.read_hidden.Goals as goal

pub read_all-requires : goal.read_all-requires
read_all-requires g c = (Second, c.requires, hidden_is.plain)

pub returns-clause-hidden : goal.returns-clause-hidden
returns-clause-hidden g c clean =
    hidden_told g.S.Store c.args.conn.now c.read_all.new.conn c.in_ok-hidden.hidden c.requires c.in_ok-hidden.ensures.reads clean c.args.viewer c.args.needle.now c.in_ok-hidden.hidden.items c.sort_unstable.new.self.items c.sort_unstable.ensures.permutation
    _ (rw (c.params-to_sql.ensures, c.params-to_sql-2.ensures) at (c.in_ok-hidden.ensures.told clean)) refl
