use Rattle.std.proofs.Common.{rules}
use Rattle.reg_access.proofs.Questions.{asks_nothing}
use Rattle.reg_access.proofs.finding.find_version_named.Goals as goal

pub returns-in-Read : goal.returns-in-Read
returns-in-Read g c = asks_nothing g.S.Store _ c.args.work.now c.requires.goes_on c.requires.at_work (search rules)

pub returns-in-AddOwners : goal.returns-in-AddOwners
returns-in-AddOwners g c = asks_nothing g.S.Store _ c.args.work.now c.requires.goes_on c.requires.at_work (search rules)
