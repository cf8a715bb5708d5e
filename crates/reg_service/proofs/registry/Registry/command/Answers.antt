use Rattle.reg_service.proofs.registry.Registry.command.Goals as goal

pub returns-clause-answers : goal.returns-clause-answers
returns-clause-answers g c clean s h = (c.command_traced-answer.ensures.answers clean s h).0
