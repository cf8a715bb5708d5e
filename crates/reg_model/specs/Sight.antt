-- What a token may see of a registry.
use Rattle.std.specs.Prelude.{◌≡◌, ℕ, if◌then◌else◌, Bool, List, map, Option, Some, None}
use Rattle.std.specs.Option.{option_map}
use Rattle.reg_names.specs.declared.endpoint.Endpoints.{Endpoints}
use Rattle.reg_model.specs.Registry.{Text, Publication, Registry, is_enabled, token_of}
use Rattle.reg_model.specs.Crates.{is_yanked, owners, versions, visible}
use Rattle.reg_model.specs.Effects.{owner_entry}
use Rattle.reg_model.specs.Events.{OwnerEntry}

-- a token: whether it is live, its account, whether that is enabled, its endpoints and patterns
pub record TokenSight : Type 0 where
  pub live : Bool
  pub account : ℕ
  pub enabled : Bool
  pub endpoints : Endpoints
  pub patterns : List Text

-- a crate: its publications with their marks, and its owners with logins and names
pub record CrateSight : Type 0 where
  pub publications : List Publication
  pub marks : List Bool
  pub owners : List OwnerEntry

-- the token with a digest, if it is known
abbrev pub token_sight : Registry → Text → Option TokenSight
token_sight s digest = option_map (λ t. record {
  live = t.live;
  account = t.account;
  enabled = is_enabled s t.account;
  endpoints = t.endpoints;
  patterns = t.patterns;
}) (token_of s digest)

-- the crate of a name, if it is visible to the token
abbrev pub crate_sight : Registry → Text → Text → Option CrateSight
crate_sight s digest n = if visible s digest n then Some (record {
  publications = versions s n;
  marks = map (λ p. is_yanked s n p.version) (versions s n);
  owners = map owner_entry (owners s n);
}) else None

-- two registries have one sight for a token: one base, one view of the token, and of each crate
pub record HaveOneSight (s t : Registry) (digest : Text) : Type 0 where
  pub base : s.base ≡ t.base
  pub token : token_sight s digest ≡ token_sight t digest
  pub crates : (n : Text) → crate_sight s digest n ≡ crate_sight t digest n
