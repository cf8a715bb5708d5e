use Rattle.std.proofs.Common.{rules}
use Rattle.reg_audit.proofs.archives.has_archive.Goals as goal

pub returns-in-None-clause-found : goal.returns-in-None-clause-found
returns-in-None-clause-found g c = search rules
