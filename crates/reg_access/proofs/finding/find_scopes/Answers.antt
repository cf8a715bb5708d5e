use Rattle.std.proofs.Common.{rules}
use Rattle.reg_access.proofs.Questions.{asks_nothing}
use Rattle.reg_access.proofs.finding.find_scopes.Goals as goal

pub returns-then-is_none : goal.returns-then-is_none
returns-then-is_none g c = asks_nothing g.S.Store _ c.args.work.now c.requires.goes_on c.requires.at_work (search rules)
