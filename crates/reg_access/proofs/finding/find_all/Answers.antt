use Rattle.reg_access.proofs.Words.{sym, action_of, rows_seen}
use Rattle.reg_access.proofs.FoundFacts.{none_found}
use Rattle.reg_access.proofs.Questions.{asks_nothing}
use Rattle.reg_access.proofs.finding.find_all.Goals as goal

pub returns-in-None : goal.returns-in-None
returns-in-None g c =
    asks_nothing g.S.Store _ c.args.work.now c.requires.goes_on c.requires.at_work
    (none_found (action_of c.args.action.now) c.args.token.now.id c.args.token.now.account (rows_seen g.S.Store c.args.work.now) (sym c.in-None.ensures))
