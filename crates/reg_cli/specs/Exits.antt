-- How a run ends whose registry could not be made or opened: its status, and the line on standard
-- error.
use Rattle.std.specs.Prelude.{ℕ, List, codes}
use Rattle.reg_audit.specs.declared.check.Check.{Check}
use Rattle.reg_audit.specs.declared.check.Check.TheVariants.{C1, C2, C3, C4, C5, C6, C7, C8}
use Rattle.reg_service.specs.declared.opening.OpenFault.{OpenFault}
use Rattle.reg_service.specs.declared.opening.OpenFault.TheVariants.{BadBase, UnknownSchema, Damaged, Storage}

abbrev pub words_of_damage : Check → List ℕ
words_of_damage C1 = codes "damaged C1"
words_of_damage C2 = codes "damaged C2"
words_of_damage C3 = codes "damaged C3"
words_of_damage C4 = codes "damaged C4"
words_of_damage C5 = codes "damaged C5"
words_of_damage C6 = codes "damaged C6"
words_of_damage C7 = codes "damaged C7"
words_of_damage C8 = codes "damaged C8"

-- a bad base is a refusal, all else a fault of the store
abbrev pub status_of_opening : OpenFault → ℕ
status_of_opening BadBase = 1
status_of_opening UnknownSchema = 3
status_of_opening (Damaged check) = 3
status_of_opening Storage = 3

abbrev pub words_of_opening : OpenFault → List ℕ
words_of_opening BadBase = codes "bad base"
words_of_opening UnknownSchema = codes "unknown schema"
words_of_opening (Damaged check) = words_of_damage check
words_of_opening Storage = codes "storage"
