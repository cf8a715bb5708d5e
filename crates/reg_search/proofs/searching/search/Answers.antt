use Rattle.std.proofs.Common.{rules}
use Rattle.reg_search.proofs.searching.search.Goals as goal

pub returns-in-Ok-clause-found : goal.returns-in-Ok-clause-found
returns-in-Ok-clause-found g c clean ids s h = c.in-Ok.ensures.found clean c.args.q.now (search rules) ids s (rw c.reading.ensures.value h)

pub reading-requires : goal.reading-requires
reading-requires g c = search rules

pub returns-in-Ok-clause-stopped : goal.returns-in-Ok-clause-stopped
returns-in-Ok-clause-stopped g c = search rules
