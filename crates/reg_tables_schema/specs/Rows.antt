-- The values of a row, and rows in an order.
use Rattle.std.specs.Prelude.{◌≡◌, ℕ, pos, Bool, if◌then◌else◌, List, [], ◌∷◌, Option, Some, None, map, min, IsPermutation, IsSorted}
use Rattle.std.specs.declared.cmp.Ordering.{Ordering}
use Rattle.std.specs.Ordering.{ordering_then}
use Rattle.sqlite.specs.Order.{Row, column, value_cmp}
use Rattle.sqlite.specs.declared.types.Value.{Value}
use Rattle.sqlite.specs.declared.types.Value.TheVariants.{Null, Int, Text}

abbrev pub sql_bool : Bool → Value
sql_bool b = Int (if b then pos 1 else pos 0)

abbrev pub text_or_null : Option (List ℕ) → Value
text_or_null None = Null
text_or_null (Some t) = Text t

-- a row whose key is its rowid, which reads as NULL in its own column
abbrev pub keyed : ℕ → Row → Row
keyed id columns = Int (pos id) ∷ Null ∷ columns

-- the order of one column, and of one and then another
abbrev pub by_column : ℕ → Row → Row → Ordering
by_column place a b = value_cmp (column a place) (column b place)

abbrev pub by_columns : ℕ → ℕ → Row → Row → Ordering
by_columns first second a b = ordering_then (by_column first a b) (by_column second a b)

-- what is shown of the rows, in this order
pub record IsInOrder (order : Row → Row → Ordering) (rows : List Row) (show : Row → Row)
    (out : List Row) : Type 0 where
  pub ordered : List Row
  pub same : IsPermutation rows ordered
  pub sorted : IsSorted order ordered
  pub shown : out ≡ map show ordered

-- the greatest number of SQL, and a count, which SQL caps at it
abbrev pub greatest_number : ℕ
greatest_number = 9223372036854775807

abbrev pub capped : ℕ → Value
capped n = Int (pos (min n greatest_number))

-- a row of one number
abbrev pub number_columns : ℕ → Row
number_columns n = Int (pos n) ∷ []
