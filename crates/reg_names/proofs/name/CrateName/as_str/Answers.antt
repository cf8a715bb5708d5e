-- A name's bytes are ASCII, by the invariant of its type.
use Rattle.reg_names.proofs.NameFacts.{name_ascii}
use Rattle.reg_names.proofs.name.CrateName.as_str.Goals as goal

pub returns-clause-ascii : goal.returns-clause-ascii
returns-clause-ascii c = name_ascii c.as_str.result.now (rw c.as_str.ensures.value c.self.invariant)
