use Rattle.reg_access.proofs.CrateLaw.{tells_crate}
use Rattle.reg_access.proofs.laws.crate_law.Goals as goal

pub returns : goal.returns
returns c ids s db holds n account = tells_crate ids s db holds.sound holds.stands n account
