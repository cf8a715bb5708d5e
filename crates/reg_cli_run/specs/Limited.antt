-- The limits that the program serves with.
use Rattle.std.specs.Prelude.{◌^◌, ◌<◌}
use Rattle.reg_body.specs.declared.limits.Limits.{Limits}

-- the turns of a stream can be counted
abbrev pub HasTurns : Limits → Type 0
HasTurns limits = limits.turns < 2 ^ 64
