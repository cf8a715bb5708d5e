-- What a statement makes of the rows of one table, told by its tree. Every other table keeps its
-- rows, and nothing is committed.
use Rattle.std.specs.Prelude.{◌≡◌, ◌≢◌, ℕ, pos, ℤ, Bool, false, not, List, ◌∷◌, filter}
use Rattle.std.specs.List.{AllByRecursion, list_any}
use Rattle.sqlite.specs.Tree.{Trees}
use Rattle.sqlite.specs.Order.{Row}
use Rattle.sqlite.specs.declared.types.Value.TheVariants.{Int}
use Rattle.sqlite.specs.State.{State}
use Rattle.sqlite_rules.specs.Edit.{is_taken, id_in}
use Rattle.sqlite_trees.specs.Tree.{rowid, has_rowid, put_row, without_rowid}
use Rattle.reg_tables_schema.specs.Schema.{our_tables}
use Rattle.reg_tables_schema.specs.States.{IsInside}

-- each table but the one at this tree has the rows that it had
abbrev pub KeepsOthers : ℕ → Trees → Trees → Type 0
KeepsOthers tree old new = AllByRecursion (λ t. t.tree ≢ tree → new t.tree ≡ old t.tree) our_tables

-- the table has these rows now
pub record Becomes (tree : ℕ) (rows : List Row) (old new : State) : Type 0 where
  pub rows_are : new.now.trees tree ≡ rows
  pub others : KeepsOthers tree old.now.trees new.now.trees
  pub committed : new.committed ≡ old.committed
  pub inside : IsInside new

-- no other table has other rows than it had
pub record Touches (tree : ℕ) (old new : State) : Type 0 where
  pub others : KeepsOthers tree old.now.trees new.now.trees
  pub committed : new.committed ≡ old.committed
  pub inside : IsInside new

-- the row is added; none had its rowid
pub record Adds (tree : ℕ) (row : Row) (old new : State) : Type 0 where
  pub fresh : is_taken (old.now.trees tree) row ≡ false
  pub becomes : Becomes tree (put_row row (old.now.trees tree)) old new

-- a row with these columns is added, at a rowid that SQL chooses
abbrev pub AddsColumns : ℕ → Row → State → State → Type 0
AddsColumns tree columns old new = (id : ℤ) × Adds tree (Int id ∷ columns) old new

-- the row stands in place of what had this rowid
abbrev pub Replaces : ℕ → ℕ → Row → State → State → Type 0
Replaces tree id row old new = Becomes tree (put_row row
    (without_rowid (pos id) (old.now.trees tree))) old new

-- the row has the rowid of one of these
abbrev pub is_at_one_of : List Row → Row → Bool
is_at_one_of rows row = list_any (λ r. has_rowid (id_in (rowid r)) row) rows

-- the rows that pass the test are gone, by their rowids
abbrev pub Removes : ℕ → (Row → Bool) → State → State → Type 0
Removes tree test old new = Becomes tree (filter
    (λ row. not (is_at_one_of (filter test (old.now.trees tree)) row)) (old.now.trees tree)) old new
