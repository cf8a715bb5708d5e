use Rattle.reg_api_replies.proofs.Joined.{pile_sent, pile_stopped, piles_behind}
use Rattle.reg_api_replies.proofs.laws.pile_law.Goals as goal

pub returns : goal.returns
returns c = record { both = piles_behind; stopped = pile_stopped; sent = pile_sent }
