use Rattle.reg_api_replies.proofs.Joined.{sends_behind, stopped_first}
use Rattle.reg_api_replies.proofs.laws.joined_law.Goals as goal

pub returns : goal.returns
returns c = record { both = sends_behind; first = stopped_first }
