-- Ranges of canonical texts: what a pattern covers, as one comparison of texts
-- (RFC 2947, "Crate scopes", in this registry's own form).
use Rattle.std.specs.Prelude.{ℕ, ◌&&◌, if◌then◌else◌, Bool, List, ◌++◌, codes, string_bytes}
use Rattle.std.specs.Ordering.{is_le, is_lt, nat_cmp}
use Rattle.std.specs.declared.cmp.Ordering.{Ordering}
use Rattle.std.specs.Cmp.Lexicographic.{slice_cmp}
use Rattle.reg_names.specs.Names.{canon}
use Rattle.reg_names.specs.Patterns.{has_star, prefix_of}
use Rattle.reg_names.specs.declared.range.NameRange.{NameRange}

-- byte order: the first byte that differs decides, and where none does the shorter text comes first
abbrev pub byte_order : List ℕ → List ℕ → Ordering
byte_order = slice_cmp nat_cmp

-- a half-open range of texts: low is in it, and high is not
pub record Range : Type 0 where
  pub low : List ℕ
  pub high : List ℕ

-- whether low ≤ t < high
abbrev pub is_within : Range → List ℕ → Bool
is_within r t = is_le (byte_order r.low t) && is_lt (byte_order t r.high)

-- the range from a canonical text to that text followed by another
abbrev pub range_to : List ℕ → List ℕ → Range
range_to base end = record { low = canon base; high = canon base ++ end }

-- The range of a pattern. Each character of a canonical name lies between `!` and `{`: a name's
-- range ends before its first longer text, a prefix's range after its last.
abbrev pub range_of : List ℕ → Range
range_of p = if has_star p then range_to (prefix_of p) (codes "{") else range_to p (codes "!")

abbrev pub range_view : NameRange → Range
range_view r = record { low = string_bytes r.low; high = string_bytes r.high }
