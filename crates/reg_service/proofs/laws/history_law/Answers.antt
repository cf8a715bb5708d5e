use Rattle.reg_service.proofs.Histories.{left_alone, ran_nothing, ran_on}
use Rattle.reg_service.proofs.laws.history_law.Goals as goal

pub returns-clause-begins : goal.returns-clause-begins
returns-clause-begins g c limits s t shows =
    ran_nothing g.S.Store limits s t c.growth_law.ensures.sound c.growth_law.ensures.grows shows

pub returns-clause-goes_on : goal.returns-clause-goes_on
returns-clause-goes_on g c limits s entry es xs t e a old new fit so_far it =
    ran_on g.S.Store limits s entry c.growth_law.ensures.sound c.growth_law.ensures.grows c.run_law.ensures.step c.run_law.ensures.join es xs t e a old new fit so_far it

pub returns-clause-alone : goal.returns-clause-alone
returns-clause-alone g c limits s entry es xs t new alone so_far db l =
    left_alone g.S.Store limits s entry c.growth_law.ensures.sound c.growth_law.ensures.grows es xs t new alone so_far db l
