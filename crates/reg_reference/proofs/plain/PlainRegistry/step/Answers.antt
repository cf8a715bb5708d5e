use Rattle.std.proofs.Common.{rules}
use Rattle.reg_reference.proofs.plain.PlainRegistry.step.Goals as goal

pub returns-in-Ask-clause-step : goal.returns-in-Ask-clause-step
returns-in-Ask-clause-step c = search rules
