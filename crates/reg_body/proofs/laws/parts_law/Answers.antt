use Rattle.reg_body.proofs.FrameFacts.{same_parts}
use Rattle.reg_body.proofs.laws.parts_law.Goals as goal

pub returns : goal.returns
returns c = record {
  json = λ b j a k d one other. (same_parts b j a k d one other).0;
  archive = λ b j a k d one other. (same_parts b j a k d one other).1;
}
