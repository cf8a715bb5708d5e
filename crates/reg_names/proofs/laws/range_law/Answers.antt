use Rattle.reg_names.proofs.RangeFacts.{within-Covers}
use Rattle.reg_names.proofs.laws.range_law.Goals as goal

pub returns : goal.returns
returns c = within-Covers
