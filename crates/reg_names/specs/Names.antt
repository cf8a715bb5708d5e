-- Crate names, their canonical and lower-case texts, and their index paths
-- (the Cargo Book, "Registry Index").
-- A text is the list of its bytes.
use Rattle.std.specs.Prelude.{◌≡◌, ℕ, ◌==◌, ◌&&◌, ◌||◌, nat_le, nat_lt, if◌then◌else◌, Bool, true, Option, Some, None, List, [], ◌∷◌, ◌++◌, length, map, slice_index, codes}
use Rattle.std.specs.List.{after_last, list_all}
use Rattle.std.specs.Str.{bytes_eq}
use Rattle.std.specs.Char.{is_ascii_alphabetic, is_ascii_alphanumeric, to_ascii_lowercase}

-- an ASCII letter, a digit, `-` or `_`
abbrev pub is_name_byte : ℕ → Bool
is_name_byte b = is_ascii_alphanumeric b || (b == 45 || b == 95)

-- a crate name: 1 to 64 of these characters, the first a letter
abbrev pub is_name : List ℕ → Bool
is_name t = (nat_lt 0 (length t) && nat_le (length t) 64)
    && (is_ascii_alphabetic (slice_index t 0) && list_all is_name_byte t)

-- the crate name that a text is
abbrev pub name_of : List ℕ → Option (List ℕ)
name_of t = if is_name t then Some t else None

abbrev pub canon_byte : ℕ → ℕ
canon_byte b = if b == 45 then 95 else to_ascii_lowercase b

-- the canonical text: ASCII lower case, and `_` for `-`; all else stays
abbrev pub canon : List ℕ → List ℕ
canon t = map canon_byte t

-- the canonical text of some name
abbrev pub IsCanonText : List ℕ → Type 0
IsCanonText t = (name : List ℕ) × (is_name name ≡ true) × (canon name ≡ t)

-- the text in ASCII lower case
abbrev pub lower : List ℕ → List ℕ
lower t = map to_ascii_lowercase t

-- the folder of a lower-case name in the index: `1/`, `2/`, `3/x/`,
-- or `xy/zw/` of its first four characters
abbrev pub folder_of : List ℕ → List ℕ
folder_of [] = []
folder_of (a ∷ []) = codes "1/"
folder_of (a ∷ b ∷ []) = codes "2/"
folder_of (a ∷ b ∷ c ∷ []) = codes "3/" ++ (a ∷ codes "/")
folder_of (a ∷ b ∷ c ∷ d ∷ rest) = (a ∷ b ∷ codes "/") ++ (c ∷ d ∷ codes "/")

-- the index path of a name
abbrev pub path_of : List ℕ → List ℕ
path_of name = folder_of (lower name) ++ lower name

-- the index path of some name
abbrev pub IsPathText : List ℕ → Type 0
IsPathText path = (name : List ℕ) × (is_name name ≡ true) × (path_of name ≡ path)

-- the text is the index path of the name, which is in lower case
abbrev pub IsPathOf : List ℕ → List ℕ → Type 0
IsPathOf n path = (is_name n ≡ true) × (lower n ≡ n) × (path_of n ≡ path)

-- the same as a test
abbrev pub is_path_of : List ℕ → List ℕ → Bool
is_path_of n path = (is_name n && bytes_eq (lower n) n) && bytes_eq (path_of n) path

-- the part of a path after its last slash
abbrev pub last_part : List ℕ → List ℕ
last_part path = after_last (λ b. b == 47) path

-- the lower-case name of which the text is the index path
abbrev pub name_at : List ℕ → Option (List ℕ)
name_at path = if is_path_of (last_part path) path then Some (last_part path) else None
