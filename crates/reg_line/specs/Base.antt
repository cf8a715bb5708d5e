-- Which texts are the base of a registry.
use Rattle.std.specs.Prelude.{ℕ, ◌&&◌, ◌||◌, nat_eq, nat_le, nat_lt, not, Bool, List, codes, length}
use Rattle.std.specs.List.{ends_with, list_all, starts_with}

-- a character from `!` to `~`
abbrev pub is_visible : ℕ → Bool
is_visible b = nat_le 33 b && nat_le b 126

-- the text begins with the scheme and goes on after it
abbrev pub is_under : List ℕ → List ℕ → Bool
is_under scheme t = starts_with nat_eq t scheme && nat_lt (length scheme) (length t)

-- `http://` or `https://` and something after it, in visible characters, without a slash at its end
abbrev pub is_base : List ℕ → Bool
is_base t =
    ((is_under (codes "http://") t || is_under (codes "https://") t) && list_all is_visible t)
    && not (ends_with nat_eq t (codes "/"))
