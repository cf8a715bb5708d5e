use Rattle.reg_model.proofs.SightAnswers.{sight_answers}
use Rattle.reg_model.proofs.laws.sight_law.Goals as goal

pub returns : goal.returns
returns c limits s t digest asked one ok = sight_answers s t digest one limits asked ok
