use Rattle.std.proofs.Common.{refl}
use Rattle.reg_service_steps.proofs.files.entry_of.Goals as goal

pub returns : goal.returns
returns c = refl
