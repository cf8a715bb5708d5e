use Rattle.reg_search.proofs.Words.{refl, Second}
use Rattle.reg_search.proofs.Texts.{hit_is}
use Rattle.reg_search.proofs.Told.{hit_popped}
use Rattle.reg_search.proofs.page.read_hit.Goals as goal

pub read_all-requires : goal.read_all-requires
read_all-requires g c = (Second, c.requires, hit_is.plain)

pub returns-clause-shown : goal.returns-clause-shown
returns-clause-shown g c clean =
    hit_popped g.S.Store c.args.conn.now c.read_all.new.conn c.in_ok-hits.hits c.requires c.in_ok-hits.ensures.reads clean c.args.id c.in_ok-hits.hits.items c.pop.new.self.items c.ok_or.result (rw c.ok_or.ensures.ok_part at c.pop.ensures.items)
    _ (rw c.params-to_sql.ensures at (c.in_ok-hits.ensures.told clean)) refl
