use Rattle.std.proofs.Common.{refl}
use Rattle.reg_tables.proofs.tables.Tables.are_answering.Goals as goal

pub returns-clause-told : goal.returns-clause-told
returns-clause-told g c = refl
