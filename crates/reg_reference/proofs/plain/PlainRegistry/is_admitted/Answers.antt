use Rattle.std.proofs.Common.{rules}
use Rattle.reg_reference.proofs.plain.PlainRegistry.is_admitted.Goals as goal

pub returns-in-None : goal.returns-in-None
returns-in-None c = search rules
