-- The lines of a text.
use Rattle.std.specs.Prelude.{◌==◌, List, [], ◌∷◌}
use Rattle.std.specs.List.{slice_split}
use Rattle.reg_model.specs.Registry.{Text}

abbrev pub unless_empty : Text → List Text
unless_empty [] = []
unless_empty (b ∷ bs) = (b ∷ bs) ∷ []

-- the pieces, but for an empty one at the end
abbrev pub but_empty_end : List Text → List Text
but_empty_end [] = []
but_empty_end (p ∷ []) = unless_empty p
but_empty_end (p ∷ q ∷ more) = p ∷ but_empty_end (q ∷ more)

-- a line feed ends a line, and the last line may lack it
abbrev pub lines_in : Text → List Text
lines_in text = but_empty_end (slice_split (λ b. b == 10) text)
