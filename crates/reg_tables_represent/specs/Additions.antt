-- Rows that are added together.
use Rattle.std.specs.Prelude.{◌≡◌, ◌≢◌, ℕ, ℤ, false, List, ◌∷◌, Option, IsPermutation}
use Rattle.std.specs.List.{AllByRecursion}
use Rattle.sqlite.specs.Order.{Row}
use Rattle.sqlite.specs.Tree.{Trees}
use Rattle.sqlite.specs.declared.types.Value.TheVariants.{Int}
use Rattle.sqlite_rules.specs.Edit.{is_taken}
use Rattle.sqlite_trees.specs.Tree.{put_row}
use Rattle.reg_names.specs.Names.{canon}
use Rattle.reg_versions.specs.Versions.{release_key_of}
use Rattle.reg_model.specs.Registry.{Text, Publication}
use Rattle.reg_tables_schema.specs.Schema.{our_tables}
use Rattle.reg_tables_sql.specs.Crates.{crate_row}
use Rattle.reg_tables_sql.specs.Owners.{owner_columns}
use Rattle.reg_tables_sql.specs.Versions.{version_row}
use Rattle.reg_tables_sql.specs.Archives.{archive_row}
use Rattle.reg_tables_schema.specs.Greatest.{IsGreatest, row_of_id}
use Rattle.reg_tables_represent.specs.Ids.{IsNext}

-- the id is the next of a table
pub record IsNextOf (rows : List Row) (id : ℕ) : Type 0 where
  pub last : Option ℕ
  pub greatest : IsGreatest rows (row_of_id last)
  pub next : IsNext last id

-- each table but the two at these trees has the rows that it had
abbrev pub KeepsAllBut : ℕ → ℕ → Trees → Trees → Type 0
KeepsAllBut one other old new = AllByRecursion
    (λ t. t.tree ≢ one → t.tree ≢ other → new t.tree ≡ old t.tree) our_tables

-- a crate with its owner
pub record AddsCrate (id : ℕ) (name : Text) (owner : ℕ) (old new : Trees) : Type 0 where
  pub is_next : IsNextOf (old 7) id
  pub crates : IsPermutation (crate_row id (canon name) name ∷ old 7) (new 7)
  pub rowid : ℤ
  pub free : is_taken (old 9) (Int rowid ∷ owner_columns id owner) ≡ false
  pub owners : new 9 ≡ put_row (Int rowid ∷ owner_columns id owner) (old 9)
  pub others : KeepsAllBut 7 9 old new

-- a version of a crate, not yanked, with its archive; this is its id
pub record AddsVersion (id of_crate : ℕ) (p : Publication) (old new : Trees) : Type 0 where
  pub is_next : IsNextOf (old 11) id
  pub versions : IsPermutation (version_row id of_crate p.version
      (release_key_of p.version) p.digest p.stem p.description false ∷ old 11) (new 11)
  pub archives : IsPermutation (archive_row id p.archive ∷ old 13) (new 13)
  pub others : KeepsAllBut 11 13 old new
