-- Which features an index line keeps apart
-- (the Cargo Book, "Registry Index", "JSON schema", `features2`).
use Rattle.std.specs.Prelude.{ℕ, ◌==◌, ◌&&◌, ◌||◌, nat_eq, Bool, false, not, List, [], ◌∷◌, map, filter, codes}
use Rattle.std.specs.List.{list_any, starts_with}
use Rattle.serde_json.specs.Data.{Data, string, array, Members, no_members, member}
use Rattle.serde_json.specs.View.{items_of}
use Rattle.reg_manifest.specs.Fields.{Features}

-- the text has `?/` somewhere
unfoldable pub has_weak : List ℕ → Bool
has_weak [] = false
has_weak (x ∷ []) = false
has_weak (x ∷ y ∷ rest) = ((x == 63) && (y == 47)) || has_weak (y ∷ rest)

-- the value begins with `dep:` or has `?/`
unfoldable pub is_newer_value : List ℕ → Bool
is_newer_value s = starts_with nat_eq s (codes "dep:") || has_weak s

-- some value of the feature is such a value
abbrev pub is_newer : List ℕ × List (List ℕ) → Bool
is_newer f = list_any is_newer_value f.1

-- the features of `features2`
abbrev pub newer : Features → Features
newer fs = filter is_newer fs

-- the features of `features`
abbrev pub older : Features → Features
older fs = filter (λ f. not (is_newer f)) fs

abbrev pub texts : List (List ℕ) → Data
texts ss = array (items_of (map string ss))

-- features as the members of an object, their values in the order sent
abbrev pub feature_members : Features → Members
feature_members [] = no_members
feature_members (f ∷ fs) = member f.0 (texts f.1) (feature_members fs)
