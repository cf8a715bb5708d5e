use Rattle.reg_service.proofs.registry.Registry.command_traced.Goals as goal

pub returns-clause-answers : goal.returns-clause-answers
returns-clause-answers g c = rw (← c.self.view_is) c.command_in.ensures.answers
