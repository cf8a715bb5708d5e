use Rattle.reg_http_read.proofs.Following.{head_body, head_some, head_within}
use Rattle.reg_http_read.proofs.laws.bounds_law.Goals as goal

pub returns : goal.returns
returns c = record {
  some = head_some;
  within = head_within;
  body = head_body;
}
