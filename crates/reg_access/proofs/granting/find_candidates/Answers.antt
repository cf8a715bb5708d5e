use Rattle.std.proofs.Common.{refl}
use Rattle.reg_access.proofs.GrantAsked.{candidates_asked}
use Rattle.reg_access.proofs.GrantText.{grant_is}
use Rattle.reg_access.proofs.granting.find_candidates.Goals as goal

pub select_list-requires-clause-reads : goal.select_list-requires-clause-reads
select_list-requires-clause-reads g c = grant_is.plain

pub returns : goal.returns
returns g c =
    candidates_asked g.S.Store _ c.args.canon.now c.args.work.now c.select_list.new.self c.select_list.result c.requires
    (rw (c.params-to_sql.ensures, c.as_str.ensures) at c.select_list.ensures.rows) c.select_list.ensures.same c.select_list.ensures.leaves refl
