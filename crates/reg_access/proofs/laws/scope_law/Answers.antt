use Rattle.reg_access.proofs.ScopeLaw.{covers_alike}
use Rattle.reg_access.proofs.laws.scope_law.Goals as goal

pub returns : goal.returns
returns c ids s db holds id t found n name = covers_alike ids s db holds.stands id t found holds.sound n name
