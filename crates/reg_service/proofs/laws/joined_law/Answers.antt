use Rattle.reg_service.proofs.Joined.{joined}
use Rattle.reg_service.proofs.laws.joined_law.Goals as goal

pub returns : goal.returns
returns g c limits s t u entry mid new es fs xs ys a b =
    joined g.S.Store limits c.growth_law.ensures.sound c.growth_law.ensures.grows c.run_law.ensures.join s t u entry mid new es fs xs ys a b
