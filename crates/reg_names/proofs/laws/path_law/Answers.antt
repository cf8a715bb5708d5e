use Rattle.reg_names.proofs.LastPart.{at_path, path_at}
use Rattle.reg_names.proofs.laws.path_law.Goals as goal

pub returns : goal.returns
returns c n path = (path_at n path, λ h. at_path n path h.0 h.1 h.2)
