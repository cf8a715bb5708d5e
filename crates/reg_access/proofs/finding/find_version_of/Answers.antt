use Rattle.reg_access.proofs.Words.{None, rules, rows_seen}
use Rattle.reg_access.proofs.FoundFacts.{no_version}
use Rattle.reg_access.proofs.Questions.{asks_nothing}
use Rattle.reg_access.proofs.finding.find_version_of.Goals as goal

pub returns-in-None : goal.returns-in-None
returns-in-None g c = asks_nothing g.S.Store None c.args.work.now c.requires.goes_on c.requires.at_work (no_version c.args.row.now c.args.text.now (rows_seen g.S.Store c.args.work.now) c.in-None.is)

pub returns-in-Some : goal.returns-in-Some
returns-in-Some g c = search rules
