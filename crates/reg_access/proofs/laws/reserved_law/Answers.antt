use Rattle.reg_access.proofs.ReservedLaw.{tells_reserved}
use Rattle.reg_access.proofs.laws.reserved_law.Goals as goal

pub returns : goal.returns
returns c ids s db holds text = tells_reserved ids s db holds.stands text
