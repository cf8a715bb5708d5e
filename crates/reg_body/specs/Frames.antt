-- The publish body (the Cargo Book, "Registry Web API", "Publish"). Bytes are a list of numbers.
use Rattle.std.specs.Prelude.{◌≡◌, ℕ, ◌/◌, ◌%◌, ◌^◌, ◌<◌, ◌≤◌, List, [], ◌∷◌, ◌++◌, length}
use Rattle.reg_body.specs.declared.limits.Limits.{Limits}

-- the four digits of a number in base 256, the lowest first
unfoldable pub le4 : ℕ → List ℕ
le4 n = n % 256 ∷ n / 256 % 256 ∷ n / 65536 % 256 ∷ n / 16777216 % 256 ∷ []

-- a part after its length
abbrev pub with_length : List ℕ → List ℕ
with_length part = le4 (length part) ++ part

-- b is a publish body of the JSON j and the archive a
pub record Frame (b j a : List ℕ) : Type 0 where
  pub json_fits : length j < 2 ^ 32
  pub archive_fits : length a < 2 ^ 32
  pub bytes : b ≡ with_length j ++ with_length a

abbrev pub IsFrame : List ℕ → Type 0
IsFrame b = (j : List ℕ) × (a : List ℕ) × Frame b j a

-- ys goes on after xs
abbrev pub IsProperPrefix : List ℕ → List ℕ → Type 0
IsProperPrefix xs ys = (rest : List ℕ) × (ys ≡ xs ++ rest) × (0 < length rest)

-- a publish body that was cut off before its end
abbrev pub IsCut : List ℕ → Type 0
IsCut b = (whole : List ℕ) × IsFrame whole × IsProperPrefix b whole

-- a publish body with more bytes after it
abbrev pub IsTrailed : List ℕ → Type 0
IsTrailed b = (front : List ℕ) × IsFrame front × IsProperPrefix front b

-- neither part is above its limit
abbrev pub IsWithin : Limits → List ℕ → List ℕ → Type 0
IsWithin limits j a = (length j ≤ limits.json) × (length a ≤ limits.archive)

-- b is accepted under these limits, with these parts
abbrev pub Accepts : Limits → List ℕ → List ℕ → List ℕ → Type 0
Accepts limits b j a = Frame b j a × IsWithin limits j a

-- a publish body of which a part is above its limit
abbrev pub IsTooLong : Limits → List ℕ → Type 0
IsTooLong limits b = (j : List ℕ) × (a : List ℕ) × Frame b j a × ¬ IsWithin limits j a

-- a part after its length that was cut off before its end
abbrev pub IsCutPart : List ℕ → Type 0
IsCutPart b = (part : List ℕ) × (length part < 2 ^ 32) × IsProperPrefix b (with_length part)
