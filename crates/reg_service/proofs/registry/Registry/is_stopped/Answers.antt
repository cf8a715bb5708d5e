use Rattle.reg_service.proofs.Rests.{was_tried}
use Rattle.reg_service.proofs.registry.Registry.is_stopped.Goals as goal

pub returns-clause-tried : goal.returns-clause-tried
returns-clause-tried g c = rw (← c.self.view_is) (was_tried g.S.Store c.self.inside.tables c.are_answering.new.self c.self.invariant c.are_answering.ensures.tried)
