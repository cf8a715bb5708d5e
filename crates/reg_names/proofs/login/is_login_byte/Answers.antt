use Rattle.std.proofs.Common.{rules}
use Rattle.reg_names.proofs.login.is_login_byte.Goals as goal

pub returns-then-b-eq45 : goal.returns-then-b-eq45
returns-then-b-eq45 c = search rules
