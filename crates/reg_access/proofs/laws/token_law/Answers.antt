use Rattle.reg_access.proofs.TokenLaw.{tells_token}
use Rattle.reg_access.proofs.laws.token_law.Goals as goal

pub returns : goal.returns
returns c ids s db holds digest = tells_token digest ids s db holds.sound holds.stands
