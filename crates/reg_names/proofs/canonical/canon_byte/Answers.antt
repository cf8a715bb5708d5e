use Rattle.std.proofs.Common.{rules}
use Rattle.reg_names.proofs.canonical.canon_byte.Goals as goal

pub returns-then-b-eq45-clause-value : goal.returns-then-b-eq45-clause-value
returns-then-b-eq45-clause-value c = search rules
