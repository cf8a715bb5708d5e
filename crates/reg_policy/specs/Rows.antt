-- What rows of a registry are.
use Rattle.std.specs.Prelude.{◌≡◌, ℕ, List, [], Option, Some, None, map}
use Rattle.std.specs.Option.{option_map}
use Rattle.reg_body.specs.declared.limits.Limits.{Limits}
use Rattle.reg_model.specs.Registry as model
use Rattle.reg_model.specs.Registry.{Text, holds, is_enabled, is_known, token_of}
use Rattle.reg_model.specs.Crates.{crates, is_reserved, is_restricted, owners, readers, versions}
use Rattle.reg_model.specs.Facts.{lists, spelling}
use Rattle.reg_model.specs.Actions as actions
use Rattle.reg_model.specs.Actions.{crate_of, logins_of}
use Rattle.reg_policy.specs.declared.action.OwnerRow.{OwnerRow}
use Rattle.reg_policy.specs.declared.action.Rows.{Rows}
use Rattle.reg_policy.specs.declared.action.TokenFacts.{TokenFacts}

-- an owner by its id and login, as a row has it and as a list of accounts has it
abbrev pub row_view : OwnerRow → ℕ × Text
row_view o = (o.id, o.login.now)

abbrev pub id_and_login : ℕ × model.Account → ℕ × Text
id_and_login o = (o.0, o.1.login)

-- what rows show of a token
abbrev pub row_of : model.Token → TokenFacts
row_of t = record { account = t.account; live = t.live; endpoints = t.endpoints }

-- the patterns of a token; none where it is unknown
abbrev pub patterns_held : Option model.Token → List Text
patterns_held None = []
patterns_held (Some t) = t.patterns

-- The rows of a registry and its limits, about the token with this digest and the crate of an
-- action. Lists are in the registry's order; where the action names no crate they are empty.
pub record IsRowsOf (limits : Limits) (s : model.Registry) (digest : Text) (a : actions.Action)
    (r : Rows) : Type 0 where
  pub token : r.token ≡ option_map row_of (token_of s digest)
  pub enabled : r.enabled ≡ holds (λ t. is_enabled s t.account) (token_of s digest)
  pub patterns : r.patterns.now ≡ patterns_held (token_of s digest)
  pub first : option_map (λ n. n.now) r.first ≡ spelling s (crate_of a)
  pub owners : map row_view r.owners.now ≡ map id_and_login (lists (owners s) (crate_of a))
  pub versions : map (λ v. v.now) r.versions.now ≡ map (λ p. p.version)
      (lists (versions s) (crate_of a))
  pub reserved : r.reserved ≡ holds (is_reserved s) (crate_of a)
  pub restricted : r.restricted ≡ holds (is_restricted s) (crate_of a)
  pub readers : r.readers.now ≡ map (λ o. o.0) (lists (readers s) (crate_of a))
  pub crates : r.crates ≡ crates s
  -- for each login that is named, whether an enabled account has it
  pub known : r.known.now ≡ map (is_known s) (logins_of a)
  pub bounds : r.limits.now ≡ limits
