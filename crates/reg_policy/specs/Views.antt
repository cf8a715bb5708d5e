-- What rows and actions of programs stand for.
use Rattle.std.specs.Prelude.{◌==◌, ◌&&◌, ◌||◌, Bool, not, is_some, length, map, string_bytes, Option, Some, None}
use Rattle.std.specs.Option.{option_map}
use Rattle.std.specs.List.{list_any, list_all}
use Rattle.std.specs.Str.{bytes_eq}
use Rattle.reg_names.specs.Patterns.{covers}
use Rattle.reg_names.specs.declared.endpoint.Endpoints.{Endpoints}
use Rattle.reg_model.specs.declared.rule.Rule.{Rule}
use Rattle.reg_model.specs.Registry.{Text, holds}
use Rattle.reg_model.specs.Crates.{same_release}
use Rattle.reg_model.specs.Facts.{Access, Counts, is_named, no_endpoints}
use Rattle.reg_model.specs.Actions as actions
use Rattle.reg_model.specs.Actions.{crate_of, version_of, logins_of}
use Rattle.reg_model.specs.Actions.Action.{Read as to_read, Index as to_index, Download as to_download, ListOwners as to_list, Publish as to_publish, Yank as to_yank, Unyank as to_unyank, AddOwners as to_add, RemoveOwners as to_remove}
use Rattle.reg_policy.specs.declared.action.Action.{Action}
use Rattle.reg_policy.specs.declared.action.Action.TheVariants.{Read, Index, Download, ListOwners, Publish, Yank, Unyank, AddOwners, RemoveOwners}
use Rattle.reg_policy.specs.declared.action.Decision.{Decision}
use Rattle.reg_policy.specs.declared.action.Decision.TheVariants.{Allowed, Denied}
use Rattle.reg_policy.specs.declared.action.Rows.{Rows}
use Rattle.reg_policy.specs.declared.action.TokenFacts.{TokenFacts}

abbrev pub action_of : Action → actions.Action
action_of Read = to_read
action_of (Index path) = to_index path.now
action_of (Download n v) = to_download n.now v.now
action_of (ListOwners n) = to_list n.now
action_of (Publish n v) = to_publish n.now v.now
action_of (Yank n v) = to_yank n.now v.now
action_of (Unyank n v) = to_unyank n.now v.now
action_of (AddOwners n logins) = to_add n.now (map string_bytes logins.now)
action_of (RemoveOwners n logins) = to_remove n.now (map string_bytes logins.now)

abbrev pub decision_of : Option Rule → Decision
decision_of None = Allowed
decision_of (Some r) = Denied r

abbrev pub endpoints_of : Option TokenFacts → Endpoints
endpoints_of None = no_endpoints
endpoints_of (Some t) = t.endpoints

-- the crate's spelling
abbrev pub spelling_of : Rows → Option Text
spelling_of r = option_map (λ n. n.now) r.first

-- whether the token's account is among the crate's owners or readers
abbrev pub is_admitted : Rows → Bool
is_admitted r = holds (λ t. list_any (λ o. o.id == t.account) r.owners.now
    || list_any (λ id. id == t.account) r.readers.now) r.token

-- whether the token sees the crate
abbrev pub is_seen : Rows → Bool
is_seen r = is_some r.first && (not r.restricted || is_admitted r)

-- the facts that the rows state, for an action: on access, and those that are counted or compared
abbrev pub access_of : Rows → actions.Action → Access
access_of r a = record {
  is_known = is_some r.token;
  is_live = holds (λ t. t.live) r.token;
  is_enabled = r.enabled;
  endpoints = endpoints_of r.token;
  is_covered = holds (λ n. list_any (λ p. covers p n) r.patterns.now) (crate_of a);
  first = spelling_of r;
  is_visible = is_seen r;
  is_owner = holds (λ t. list_any (λ o. o.id == t.account) r.owners.now) r.token;
  is_reserved = r.reserved;
  has_version = list_any (λ v. bytes_eq v.now (version_of a)) r.versions.now;
  has_release = list_any (λ v. same_release v.now (version_of a)) r.versions.now;
}

abbrev pub counts_of : Rows → actions.Action → Counts
counts_of r a = record {
  versions = length r.versions.now;
  crates = r.crates;
  are_known = list_all (λ b. b) r.known.now;
  are_owners = list_all (λ l. list_any (λ o. bytes_eq o.login.now l) r.owners.now) (logins_of a);
  are_all_owners = list_all (λ o. is_named (logins_of a) o.login.now) r.owners.now;
}
