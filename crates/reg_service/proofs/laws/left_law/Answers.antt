use Rattle.reg_service.proofs.Words.{Second}
use Rattle.reg_service.proofs.laws.left_law.Goals as goal

pub returns : goal.returns
returns g c = rw (← c.registry.view_is) (λ clean db l m sound stands. (Second, c.registry.invariant.left clean db l, (stands.0, record { sound = sound; stands = stands.1 })))
