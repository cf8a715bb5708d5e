use Rattle.reg_http_read.proofs.FirstBytes.{told_before, told_by_first}
use Rattle.reg_http_read.proofs.laws.first_bytes_law.Goals as goal

pub returns : goal.returns
returns c = record {
  whole = told_by_first;
  begun = told_before;
}
