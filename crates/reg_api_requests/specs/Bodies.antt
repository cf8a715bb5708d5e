-- The parts of a publish body, or its first fault; `frame_law` ties them to the body's frame
-- (the Cargo Book, "Registry Web API", "Publish").
use Rattle.std.specs.Prelude.{ℕ, ◌+◌, ◌&&◌, nat_le, nat_lt, take, drop, length, Bool, [], ◌∷◌, Option, Some, None, Result, Ok, Err, if◌then◌else◌}
use Rattle.std.specs.Int.{w32, from_le_bytes}
use Rattle.reg_body.specs.declared.limits.Limits.{Limits}
use Rattle.reg_body.specs.declared.frame.BodyFault.{BodyFault}
use Rattle.reg_body.specs.declared.frame.BodyFault.TheVariants.{Short, Trailing, TooLong}
use Rattle.reg_model.specs.Registry.{Text}

-- the length that the bytes begin with
abbrev pub length_at : Text → ℕ
length_at b = from_le_bytes w32 (take 4 b)

-- the part that the bytes begin with, behind its length, and what follows it; none where there
-- are too few
unfoldable pub first_part : Text → Option (Text × Text)
first_part b =
    if nat_lt (length b) (4 + length_at b) then None
    else Some (take (length_at b) (drop 4 b), drop (4 + length_at b) b)

abbrev pub is_within : Limits → Text → Text → Bool
is_within limits json archive =
    nat_le (length json) limits.json && nat_le (length archive) limits.archive

abbrev pub with_rest : Limits → Text → Text → Text → Result (Text × Text) BodyFault
with_rest limits json archive [] =
    if is_within limits json archive then Ok (json, archive) else Err TooLong
with_rest limits json archive (b ∷ rest) = Err Trailing

abbrev pub with_archive : Limits → Text → Option (Text × Text) → Result (Text × Text) BodyFault
with_archive limits json None = Err Short
with_archive limits json (Some p) = with_rest limits json p.0 p.1

abbrev pub with_json : Limits → Option (Text × Text) → Result (Text × Text) BodyFault
with_json limits None = Err Short
with_json limits (Some p) = with_archive limits p.0 (first_part p.1)

-- the JSON and the archive, each behind its length
unfoldable pub body_parts : Limits → Text → Result (Text × Text) BodyFault
body_parts limits b = with_json limits (first_part b)
