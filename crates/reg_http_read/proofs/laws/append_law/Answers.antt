use Rattle.reg_http_read.proofs.Following.{IsHeadAt-append, IsRefusedAt-append, head_alone}
use Rattle.reg_http_read.proofs.laws.append_law.Goals as goal

pub returns : goal.returns
returns c = record {
  head = IsHeadAt-append;
  alone = head_alone;
  refused = IsRefusedAt-append;
}
