use Rattle.reg_http_read.proofs.Readings.{head_not_refused, no_head_yet, no_rule_yet, one_refusal, refused_no_head}
use Rattle.reg_http_read.proofs.laws.one_reading_law.Goals as goal

pub returns : goal.returns
returns c = record {
  head = head_not_refused;
  refused = refused_no_head;
  rule = one_refusal;
  no_head = no_head_yet;
  no_rule = no_rule_yet;
}
