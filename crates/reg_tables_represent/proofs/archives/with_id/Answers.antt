use Rattle.std.proofs.Common.{rules}
use Rattle.reg_tables_represent.proofs.archives.with_id.Goals as goal

pub returns-clause-found : goal.returns-clause-found
returns-clause-found g c = search rules
