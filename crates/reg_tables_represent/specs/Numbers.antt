-- Rows whose rowids are numbers, as SQL makes them: DELETE finds a row again by the number in its
-- rowid.
use Rattle.std.specs.Prelude.{◌≡◌, List}
use Rattle.std.specs.List.{AllByRecursion}
use Rattle.sqlite.specs.Order.{Row}
use Rattle.sqlite.specs.declared.types.Value.TheVariants.{Int}
use Rattle.sqlite_rules.specs.Edit.{id_in}
use Rattle.sqlite_trees.specs.Tree.{rowid}

abbrev pub IsNumbered : Row → Type 0
IsNumbered r = rowid r ≡ Int (id_in (rowid r))

abbrev pub AreNumbered : List Row → Type 0
AreNumbered = AllByRecursion IsNumbered
