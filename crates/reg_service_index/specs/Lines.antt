-- The lines of an index file, of what the tables show.
use Rattle.std.specs.Prelude.{Bool, false, List, [], map, pos}
use Rattle.std.specs.Ordering.{int_eq}
use Rattle.sqlite.specs.declared.types.Value.{Value}
use Rattle.sqlite.specs.declared.types.Value.TheVariants.{Blob, Int}
use Rattle.sqlite.specs.Order.{Row, column}
use Rattle.reg_line.specs.File.{file_text}
use Rattle.reg_model.specs.Registry.{Text}

abbrev pub stem_in : Value → Text
stem_in (Blob stem) = stem
stem_in _ = []

abbrev pub mark_in : Value → Bool
mark_in (Int n) = int_eq n (pos 1)
mark_in _ = false

-- the stem and the mark that a row tells
abbrev pub entry_in : Row → Text × Bool
entry_in row = (stem_in (column row 0), mark_in (column row 1))

-- the lines of these rows
abbrev pub lines_in : List Row → Text
lines_in rows = file_text (map entry_in rows)
