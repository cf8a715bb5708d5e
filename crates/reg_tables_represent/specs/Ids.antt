-- Ids that are taken in turn.
use Rattle.std.specs.Prelude.{◌≡◌, ℕ, ◌+◌, Option, Some, None}

-- one more than the last, or one where there is none
abbrev pub IsNext : Option ℕ → ℕ → Type 0
IsNext None id = id ≡ 1
IsNext (Some last) id = id ≡ 1 + last
