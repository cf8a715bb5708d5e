-- The line of what changes.
use Rattle.std.specs.Prelude.{◌≡◌, Bool, true, false, List, not, None, Option, Some, Result, Ok, String, string_bytes}
use Rattle.std.specs.declared.alloc.AllocError.{AllocError}
use Rattle.std.specs.declared.alloc.Global.{Global}
use Rattle.std.specs.Option.{option_map}
use Rattle.sqlite.specs.Tree.{Trees}
use Rattle.reg_body.specs.declared.limits.Limits.{Limits}
use Rattle.reg_model.specs.Events.{Event}
use Rattle.reg_model.specs.Registry.{Text}
use Rattle.reg_model.specs.Trail.{IsPassed, line, line_of, only_if}
use Rattle.reg_tables_represent.specs.Calls.{Tells}

-- this is the line of the event, where nothing refuses it
abbrev pub TellsLine : Limits → Event → Trees → Option (String Global) → Type 0
TellsLine limits e db found = Tells (λ ids s. IsPassed limits s e
    → line limits s e ≡ option_map string_bytes found) db

-- the same, if a line is wanted
abbrev pub TellsIf : Bool → Limits → Event → Trees → Option (String Global) → Type 0
TellsIf true limits e db found = TellsLine limits e db found
TellsIf false limits e db found = found ≡ None

-- a line that was made is told
abbrev pub IsToldLine : Result (String Global) AllocError → Option (String Global) → Type 0
IsToldLine made found = (line : String Global) × (made ≡ Ok line) × (found ≡ Some line)

-- the line of these words, if something changes
abbrev pub line_if : Bool → List Text → Option Text
line_if changes words = option_map line_of (only_if changes words)

-- whether what is so has yet to become so
abbrev pub differs : Bool → Bool → Bool
differs is true = not is
differs is false = is
