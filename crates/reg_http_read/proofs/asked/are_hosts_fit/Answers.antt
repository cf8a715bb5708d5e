use Rattle.std.proofs.Common.{rules}
use Rattle.reg_http_read.proofs.asked.are_hosts_fit.Goals as goal

pub returns-then-minor-eq1 : goal.returns-then-minor-eq1
returns-then-minor-eq1 c = search rules
