use Rattle.reg_tables_rows.proofs.Words.{arith, ap, ◌∙◌, map, state, HasCleanDisk, shows}
use Rattle.sqlite.specs.Effect.{Database}
use Rattle.reg_tables_sql.specs.Abouts.{about_places}
use Rattle.reg_tables_rows.proofs.editions.read_base.Goals as goal

pub returns-clause-lacks : goal.returns-clause-lacks
returns-clause-lacks g c clean lacks base is =
    let early : HasCleanDisk (state g.S.Store c.begin.new.conn) = omega (arith, c.read.ensures.survives.clean) in
    let same = ap (λ (d : Database). map (shows about_places) (d.trees 0)) (c.in_ok-begin.ensures.begun early).now_is in
    c.is_of.ensures.is_not _ (c.in_ok-about.ensures.told clean) lacks base (same ∙ is)
