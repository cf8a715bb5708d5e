-- A line has no float, so its text is the compact text.
use Rattle.reg_line.proofs.Words.{◌≡◌, ℕ, Bool, false, List, [], ◌∷◌, map, Option, Some, None, refl, encode_lower, Data, null, string}
use Rattle.reg_line.proofs.Words.{items_of, has_float, Features, DepData, Metadata, feature_members, newer, older, dep_data, dep_named}
use Rattle.reg_line.proofs.Words.{dep_object, line_members, text_or_null}
use Rattle.serde_json.specs.Written.{items_have_float, members_have_float}
use Rattle.reg_line.specs.Line.{line_data}

texts-no_float : (ss : List (List ℕ)) → items_have_float (items_of (map string ss)) ≡ false
texts-no_float [] = refl
texts-no_float (s ∷ ss) = texts-no_float ss

features-no_float : (fs : Features) → members_have_float (feature_members fs) ≡ false
features-no_float [] = refl
features-no_float (f ∷ fs) = rw (texts-no_float f.1, features-no_float fs) refl

text_or_null-no_float : (o : Option (List ℕ)) → has_float (text_or_null o) ≡ false
text_or_null-no_float None = refl
text_or_null-no_float (Some s) = refl

object-no_float : (name : List ℕ) (own : Data) (d : DepData) → has_float own ≡ false → has_float (dep_object name own d) ≡ false
object-no_float name own d h = rw (texts-no_float d.features, h, text_or_null-no_float d.registry, text_or_null-no_float d.target) refl

dep-no_float : (r : Option (List ℕ)) (d : DepData) → has_float (dep_named r d) ≡ false
dep-no_float None d = object-no_float d.name null d refl
dep-no_float (Some s) d = object-no_float s (string d.name) d refl

deps-no_float : (ds : List DepData) → items_have_float (items_of (map dep_data ds)) ≡ false
deps-no_float [] = refl
deps-no_float (d ∷ ds) = rw (dep-no_float d.rename d, deps-no_float ds) refl

members-no_float : (olds news : Features) (m : Metadata) (c : List ℕ) (y : Bool) → members_have_float (line_members olds news m c y) ≡ false
members-no_float olds [] m c y = rw (deps-no_float m.deps, features-no_float olds, text_or_null-no_float m.links, text_or_null-no_float m.rust_version) refl
members-no_float olds (f ∷ fs) m c y = rw (deps-no_float m.deps, features-no_float olds, features-no_float fs, texts-no_float f.1, text_or_null-no_float m.links, text_or_null-no_float m.rust_version) refl

pub line-no_float : (m : Metadata) (digest : List ℕ) (y : Bool) → has_float (line_data m digest y) ≡ false
unfolding line_data
line-no_float m digest y = members-no_float (older m.features) (newer m.features) m (encode_lower digest) y
