use Rattle.std.proofs.Common.{refl}
use Rattle.reg_access.proofs.Questions.{asks_nothing}
use Rattle.reg_service_steps.proofs.telling.told_line.Goals as goal

pub returns-in-Ok : goal.returns-in-Ok
returns-in-Ok g c =
    asks_nothing g.S.Store _ c.args.work.now c.requires.goes_on c.requires.at_work (c.in-Ok.line, c.in-Ok.is, refl)
