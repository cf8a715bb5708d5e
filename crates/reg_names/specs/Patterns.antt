-- Patterns of a token's crate scope (RFC 2947, "Crate scopes").
use Rattle.std.specs.Prelude.{◌≡◌, ℕ, ◌==◌, ◌-◌, ◌||◌, ◌⊎◌, if◌then◌else◌, Bool, true, Option, Some, None, List, ◌++◌, length, take, codes, nat_eq}
use Rattle.std.specs.List.{starts_with, ends_with}
use Rattle.std.specs.Str.{bytes_eq}
use Rattle.reg_names.specs.Names.{canon, is_name}

-- whether the last character is `*`
abbrev pub has_star : List ℕ → Bool
has_star p = ends_with nat_eq p (codes "*")

-- the text without its last character
abbrev pub prefix_of : List ℕ → List ℕ
prefix_of p = take (length p - 1) p

-- a pattern: a crate name, or a prefix followed by `*`, where the prefix is empty or a crate name
abbrev pub is_pattern : List ℕ → Bool
is_pattern p = if has_star p then length (prefix_of p) == 0 || is_name (prefix_of p) else is_name p

-- the pattern that a text is
abbrev pub pattern_of : List ℕ → Option (List ℕ)
pattern_of t = if is_pattern t then Some t else None

-- A name covers those of its own canonical text. A prefix with its star covers those whose
-- canonical text is the prefix's, followed by some text.
abbrev pub Covers : List ℕ → List ℕ → Type 0
Covers p n = ((is_name p ≡ true) × (canon n ≡ canon p))
    ⊎ ((r : List ℕ) × (w : List ℕ) × (p ≡ r ++ codes "*") × (canon n ≡ canon r ++ w))

-- the same as a test
abbrev pub covers : List ℕ → List ℕ → Bool
covers p n =
    if has_star p then starts_with nat_eq (canon n) (canon (prefix_of p))
    else bytes_eq (canon n) (canon p)
