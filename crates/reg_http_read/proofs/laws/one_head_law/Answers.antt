use Rattle.reg_http_read.proofs.Following.{one_head}
use Rattle.reg_http_read.proofs.laws.one_head_law.Goals as goal

pub returns : goal.returns
returns c = one_head
