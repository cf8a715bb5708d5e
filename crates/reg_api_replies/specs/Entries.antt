-- The entries of lists: those that are put in, and those that JSON values tell.
use Rattle.std.specs.Prelude.{◌≡◌, ℕ, List, [], map, Option, codes, unwrap_or}
use Rattle.std.specs.Option.{option_and_then}
use Rattle.serde_json.specs.Data.{Data}
use Rattle.serde_json.specs.Find.{as_number, as_str, as_u64, get}
use Rattle.serde_json.specs.View.{view}
use Rattle.serde_json.specs.declared.value.Value.{Value}
use Rattle.reg_model.specs.Registry.{Text}
use Rattle.reg_model.specs.Events.{FoundCrates, Hit, OwnerEntry}
use Rattle.reg_api_replies.specs.Bodies.{hit_data, owner_data}

-- an owner, and a crate that is found, by what is told of them
abbrev pub owner_of : ℕ → Text → Option Text → OwnerEntry
owner_of id login name = record { id = id; login = login; name = name }

abbrev pub hit_of : Text → Text → Option Text → Hit
hit_of name version description =
    record { name = name; version = version; description = description }

abbrev pub found_of : ℕ → List Hit → FoundCrates
found_of total hits = record { total = total; crates = hits }

-- what a value tells
abbrev pub owner_in : Data → OwnerEntry
owner_in d = record {
  id = unwrap_or (option_and_then as_u64 (option_and_then as_number (get (codes "id") d))) 0;
  login = unwrap_or (option_and_then as_str (get (codes "login") d)) [];
  name = option_and_then as_str (get (codes "name") d);
}

abbrev pub hit_in : Data → Hit
hit_in d = record {
  name = unwrap_or (option_and_then as_str (get (codes "name") d)) [];
  version = unwrap_or (option_and_then as_str (get (codes "max_version") d)) [];
  description = option_and_then as_str (get (codes "description") d);
}

-- the owners, and the crates, that these values tell
abbrev pub owners_in : List Value → List OwnerEntry
owners_in vs = map (λ v. owner_in (view v)) vs

abbrev pub hits_in : List Value → List Hit
hits_in vs = map (λ v. hit_in (view v)) vs

-- they tell nothing else
abbrev pub AreOwners : List Value → Type 0
AreOwners vs = map view vs ≡ map owner_data (owners_in vs)

abbrev pub AreHits : List Value → Type 0
AreHits vs = map view vs ≡ map hit_data (hits_in vs)
