-- Tables of schema 1 made tables of schema 2.
use Rattle.std.specs.Prelude.{◌≡◌, ◌≢◌, ℕ, IsTrue, List, [], ◌∷◌, true, drop, map}
use Rattle.std.specs.List.{AllByRecursion}
use Rattle.sqlite.specs.Effect.{Database}
use Rattle.sqlite.specs.State.{State, Shows}
use Rattle.sqlite.specs.Tree.{Trees}
use Rattle.reg_tables_schema.specs.declared.edition.SchemaVersion.{SchemaVersion}
use Rattle.reg_tables_schema.specs.declared.edition.SchemaVersion.TheVariants.{First, Second}
use Rattle.reg_tables_schema.specs.Places.{about_tree, readers_tree, restricted_tree}
use Rattle.reg_tables_schema.specs.Schema.{ours, old_tables}
use Rattle.reg_tables_schema.specs.States.{about_columns}

-- each table but `about` has the rows that it had, and the two new ones have none; the row of
-- `about` tells schema 2, of the same base
pub record IsUpgrade (old new : Database) : Type 0 where
  pub schema_is : new.schema ≡ ours
  pub kept : AllByRecursion (λ t. t.tree ≢ about_tree → new.trees t.tree ≡ old.trees t.tree)
      old_tables
  pub restricted : new.trees restricted_tree ≡ []
  pub readers : new.trees readers_tree ≡ []
  pub about : (base : List ℕ)
      → map (drop 1) (old.trees about_tree) ≡ about_columns First base ∷ []
      → map (drop 1) (new.trees about_tree) ≡ about_columns Second base ∷ []

-- it is done in a transaction
pub record Upgrades (old new : State) : Type 0 where
  pub made : IsUpgrade old.now new.now
  pub shows : Shows old new new.now old.committed true

-- a transaction is begun, and sees schema 2
abbrev pub BeginsSecond : SchemaVersion → State → State → Type 0
BeginsSecond First old new = Upgrades old new
BeginsSecond Second old new = Shows old new old.now old.committed true

-- the upgrade of a connection that was open is committed
pub record IsUpgraded (old new : State) : Type 0 where
  pub was_open : IsTrue old.is_open
  pub made : IsUpgrade old.now new.now
  pub settled : new.committed ≡ new.now

-- these are the rows of the tables upgraded
abbrev pub AreUpgraded : Database → Trees → Type 0
AreUpgraded old trees = (db : Database) × IsUpgrade old db × (trees ≡ db.trees)

-- the rows that a transaction begins with
abbrev pub AreBegun : SchemaVersion → Database → Trees → Type 0
AreBegun First old db = AreUpgraded old db
AreBegun Second old db = db ≡ old.trees
