use Rattle.std.proofs.Common.{rules}
use Rattle.reg_manifest.proofs.fields.flag_or.Goals as goal

pub returns-in-Some : goal.returns-in-Some
returns-in-Some c = search rules
