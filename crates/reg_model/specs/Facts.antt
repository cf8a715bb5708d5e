-- All that the rules ask of a state, about one caller and the crate of one action: what decides on
-- access, and what is counted or compared besides.
use Rattle.std.specs.Prelude.{ℕ, Bool, is_some, length, Option, Some, None, false, List, []}
use Rattle.std.specs.List.{list_any, list_all}
use Rattle.std.specs.Str.{bytes_eq}
use Rattle.reg_names.specs.Patterns.{covers}
use Rattle.reg_names.specs.declared.endpoint.Endpoints.{Endpoints}
use Rattle.reg_model.specs.Registry.{Text, Registry, token_of, is_enabled, is_known, holds, Account, Token}
use Rattle.reg_model.specs.Crates.{first, versions, owners, is_among, is_reserved, crates, same_release, visible}
use Rattle.reg_model.specs.Actions.{Action, crate_of, version_of, logins_of}

abbrev pub no_endpoints : Endpoints
no_endpoints = record {
  publish_new = false;
  publish_update = false;
  yank = false;
  change_owners = false;
}

abbrev pub endpoints_of : Option Token → Endpoints
endpoints_of None = no_endpoints
endpoints_of (Some t) = t.endpoints

-- whether one of the accounts has the login
abbrev pub has_login : List (ℕ × Account) → Text → Bool
has_login os login = list_any (λ o. bytes_eq o.1.login login) os

abbrev pub is_named : List Text → Text → Bool
is_named logins login = list_any (λ l. bytes_eq login l) logins

-- what a state lists of a crate, where one is named
abbrev pub lists : {X : Type 0} → (Text → List X) → Option Text → List X
lists f None = []
lists f (Some n) = f n

pub record Access : Type 0 where
  -- the token: whether it is known and live, its account enabled; its endpoints; whether a pattern
  -- of it covers the crate
  pub is_known : Bool
  pub is_live : Bool
  pub is_enabled : Bool
  pub endpoints : Endpoints
  pub is_covered : Bool
  -- the crate: its spelling; whether it is visible to the token; whether the token's account owns
  -- it; whether its name is reserved
  pub first : Option Text
  pub is_visible : Bool
  pub is_owner : Bool
  pub is_reserved : Bool
  -- whether this very version is there, and one of the same release
  pub has_version : Bool
  pub has_release : Bool

pub record Counts : Type 0 where
  -- how many versions the crate has, and how many crates there are
  pub versions : ℕ
  pub crates : ℕ
  -- the logins that are named: whether enabled accounts have them, whether owners have them,
  -- whether they are all owners' logins
  pub are_known : Bool
  pub are_owners : Bool
  pub are_all_owners : Bool

abbrev pub spelling : Registry → Option Text → Option Text
spelling s None = None
spelling s (Some n) = first s n

unfoldable pub access_facts : Registry → Text → Action → Access
access_facts s digest a = record {
  is_known = is_some (token_of s digest);
  is_live = holds (λ t. t.live) (token_of s digest);
  is_enabled = holds (λ t. is_enabled s t.account) (token_of s digest);
  endpoints = endpoints_of (token_of s digest);
  is_covered = holds (λ t. holds (λ n. list_any (λ p. covers p n) t.patterns) (crate_of a))
      (token_of s digest);
  first = spelling s (crate_of a);
  is_visible = holds (visible s digest) (crate_of a);
  is_owner = holds (λ t. is_among (lists (owners s) (crate_of a)) t.account) (token_of s digest);
  is_reserved = holds (is_reserved s) (crate_of a);
  has_version = list_any (λ p. bytes_eq p.version (version_of a)) (lists (versions s) (crate_of a));
  has_release = list_any (λ p. same_release p.version (version_of a))
      (lists (versions s) (crate_of a));
}

unfoldable pub counts : Registry → Action → Counts
counts s a = record {
  versions = length (lists (versions s) (crate_of a));
  crates = crates s;
  are_known = list_all (is_known s) (logins_of a);
  are_owners = list_all (has_login (lists (owners s) (crate_of a))) (logins_of a);
  are_all_owners = list_all (λ o. is_named (logins_of a) o.1.login) (lists (owners s) (crate_of a));
}
