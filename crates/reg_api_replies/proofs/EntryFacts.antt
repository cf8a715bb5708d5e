-- The entries of lists, and the JSON values that tell them.
use Rattle.std.proofs.Common.{◌≡◌, List, [], ◌∷◌, Option, Some, None, map, false, refl}
use Rattle.serde_json.specs.View.{items_of}
use Rattle.serde_json.specs.Written.{has_float, items_have_float}
use Rattle.reg_line.specs.Line.{text_or_null}
use Rattle.reg_model.specs.Registry.{Text}
use Rattle.reg_model.specs.Events.{FoundCrates, Hit, OwnerEntry}
use Rattle.reg_api_replies.specs.Bodies.{found_data, hit_data, owner_data, owners_data}

-- what an entry's value tells is the entry

-- no entry's value has a float

text-no_float : (t : Option Text) → has_float (text_or_null t) ≡ false
text-no_float None = refl
text-no_float (Some t) = refl

users-no_float : (os : List OwnerEntry) → items_have_float (items_of (map owner_data os)) ≡ false
users-no_float [] = refl
users-no_float (o ∷ os) = rw (text-no_float o.name, users-no_float os)

hits-no_float : (hs : List Hit) → items_have_float (items_of (map hit_data hs)) ≡ false
hits-no_float [] = refl
hits-no_float (h ∷ hs) = rw (text-no_float h.description, hits-no_float hs)

pub owners-no_float : (os : List OwnerEntry) → has_float (owners_data os) ≡ false
owners-no_float os = rw (users-no_float os)

pub found-no_float : (f : FoundCrates) → has_float (found_data f) ≡ false
found-no_float f = rw (hits-no_float f.crates)
