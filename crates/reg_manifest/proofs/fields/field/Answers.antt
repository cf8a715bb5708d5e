use Rattle.std.proofs.Common.{rules}
use Rattle.reg_manifest.proofs.fields.field.Goals as goal

pub returns-in-Some : goal.returns-in-Some
returns-in-Some c = search rules
