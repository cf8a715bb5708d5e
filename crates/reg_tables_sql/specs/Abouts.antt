-- The one row of the table `about`.
use Rattle.std.specs.Prelude.{◌≡◌, ◌≢◌, ℕ, ℤ, List, [], ◌∷◌, Option, Some, None, drop, map, string_bytes}
use Rattle.sqlite.specs.declared.types.Value.TheVariants.{Int}
use Rattle.sqlite.specs.Order.{Row}
use Rattle.sqlite.specs.State.{State}
use Rattle.sqlite.specs.Tree.{Trees}
use Rattle.reg_tables_schema.specs.declared.edition.SchemaVersion.{SchemaVersion}
use Rattle.reg_tables_schema.specs.declared.edition.SchemaVersion.TheVariants.{First, Second}
use Rattle.reg_tables_schema.specs.Changes.{Touches}
use Rattle.reg_tables_schema.specs.Places.{about_tree}
use Rattle.reg_tables_schema.specs.States.{about_columns}
use Rattle.reg_tables_schema.specs.Tests.{shows}
use Rattle.reg_tables_sql.specs.declared.about.About.{About}

-- the number of the schema, and the base
abbrev pub about_places : List ℕ
about_places = 1 ∷ 2 ∷ []

-- the rows are the one row that says this, or are not one row that says anything
abbrev pub IsAbout : List Row → Option About → Type 0
IsAbout rows None = (e : SchemaVersion) (base : List ℕ) → rows ≢ about_columns e base ∷ []
IsAbout rows (Some a) = rows ≡ about_columns a.edition (string_bytes a.base) ∷ []

-- this is what the table says
abbrev pub IsAboutOf : Trees → Option About → Type 0
IsAboutOf db about = IsAbout (map (shows about_places) (db about_tree)) about

-- the rows are the one row of schema 2 with this base, or are no such row
abbrev pub IsBase : List Row → Option (List ℕ) → Type 0
IsBase rows None = (base : List ℕ) → rows ≢ about_columns Second base ∷ []
IsBase rows (Some base) = rows ≡ about_columns Second base ∷ []

-- this is the base of a registry of schema 2
abbrev pub IsBaseOf : Trees → Option (List ℕ) → Type 0
IsBaseOf db base = IsBase (map (shows about_places) (db about_tree)) base

-- there is one row of `about`, with the number of this schema
abbrev pub HasBase : SchemaVersion → Trees → Type 0
HasBase e db = (base : List ℕ) × (map (shows about_places) (db about_tree) ≡ about_columns e base
    ∷ [])

-- there is none, or it is not alone, or its number is another
abbrev pub LacksBase : SchemaVersion → Trees → Type 0
LacksBase e db = (base : List ℕ) → map (shows about_places) (db about_tree) ≢ about_columns e base
    ∷ []

-- the row at this rowid was that of schema 1 with a base, and is that of schema 2
pub record NumbersSecond (id : ℤ) (old new : State) : Type 0 where
  pub second : (base : List ℕ)
      → old.now.trees about_tree ≡ (Int id ∷ about_columns First base) ∷ []
      → new.now.trees about_tree ≡ (Int id ∷ about_columns Second base) ∷ []
  pub touches : Touches about_tree old new

-- the one row was that of schema 1 with a base, and is that of schema 2
pub record BecomesSecond (old new : State) : Type 0 where
  pub second : (base : List ℕ)
      → map (drop 1) (old.now.trees about_tree) ≡ about_columns First base ∷ []
      → map (drop 1) (new.now.trees about_tree) ≡ about_columns Second base ∷ []
  pub touches : Touches about_tree old new
