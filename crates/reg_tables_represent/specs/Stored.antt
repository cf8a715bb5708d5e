-- The crates and versions of the registry as rows have them, each behind its id.
use Rattle.std.specs.Prelude.{ℕ, List}
use Rattle.reg_model.specs.Registry.{Text, Publication}

-- a crate as it is stored: a spelling behind its id
abbrev pub StoredCrate : Type 0
StoredCrate = ℕ × Text

-- a crate and an account of a relation as it is stored: the ids of both
abbrev pub StoredPair : Type 0
StoredPair = ℕ × ℕ

-- a version as it is stored
pub record StoredVersion : Type 0 where
  pub id : ℕ
  pub of_crate : ℕ
  pub publication : Publication

-- The ids under which the rows have the crates and the versions. Both rise, versions in the order
-- of publication. All that rows say of a crate they say by its id.
pub record IdAssignment : Type 0 where
  pub crates : List StoredCrate
  pub versions : List StoredVersion
