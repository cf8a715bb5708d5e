-- Rows that are a sound registry.
use Rattle.reg_check_sound.proofs.Words.{StandsSoundBy, AreAllRows}
use Rattle.reg_check_sound.proofs.Common.{AllRows, IdAssignment, Registry, Trees}

pub record Standing (it : AllRows) (db : Trees) (ids : IdAssignment) (s : Registry) : Type 0 where
  pub are : AreAllRows it db
  pub holds : StandsSoundBy ids s db
