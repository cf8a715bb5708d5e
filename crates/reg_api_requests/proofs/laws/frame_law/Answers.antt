use Rattle.reg_api_requests.proofs.Bodies.{cut_short, long_too_long, trailed_trailing, within_parts}
use Rattle.reg_api_requests.proofs.laws.frame_law.Goals as goal

pub returns : goal.returns
returns c = record {
  parts = within_parts;
  short = cut_short;
  trailing = trailed_trailing;
  too_long = long_too_long;
}
