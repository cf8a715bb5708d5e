-- How short a line can be.
use Rattle.std.specs.Prelude.{ℕ, ◌+◌, List, length}

-- The length of the shortest line of a crate with this name: no dependencies and no features,
-- empty texts as `links` and `rust_version` (null is longer), a version such as `0.0.0`, yanked.
abbrev pub shortest_line : List ℕ → ℕ
shortest_line name = 169 + length name
