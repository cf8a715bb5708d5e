use Rattle.std.proofs.Common.{rules}
use Rattle.reg_access.proofs.Questions.{asks_nothing}
use Rattle.reg_access.proofs.finding.stands_against.Goals as goal

pub returns-in-Some : goal.returns-in-Some
returns-in-Some g c = rw (c.in-Publish.is, c.in-Some.is) c.has_release.ensures

pub returns-in-Read : goal.returns-in-Read
returns-in-Read g c = asks_nothing g.S.Store _ c.args.work.now c.requires.goes_on c.requires.at_work (search rules)

pub returns-in-Yank : goal.returns-in-Yank
returns-in-Yank g c = asks_nothing g.S.Store _ c.args.work.now c.requires.goes_on c.requires.at_work (search rules)

pub returns-in-AddOwners : goal.returns-in-AddOwners
returns-in-AddOwners g c = asks_nothing g.S.Store _ c.args.work.now c.requires.goes_on c.requires.at_work (search rules)
