-- The changes of a registry, each by its name. Effects, tables and the calls on them cite these.
use Rattle.std.specs.Prelude.{ℕ, Bool, true, false, if◌then◌else◌, List, [], ◌∷◌, ◌++◌, Option}
use Rattle.std.specs.FinSet as finset
use Rattle.reg_names.specs.declared.endpoint.Endpoints.{Endpoints}
use Rattle.reg_model.specs.Registry.{Text, Publication, Mark, Owner, Registry, change_at}

-- one more account, which is enabled
abbrev pub with_account : Text → Option Text → Registry → Registry
with_account login name s =
    record s { accounts = s.accounts ++ record { login = login; name = name; enabled = true } ∷ [] }

-- the account with this id is enabled or not
abbrev pub with_enabled : Bool → ℕ → Registry → Registry
with_enabled enabled id s =
    record s { accounts = change_at (λ a. record a { enabled = enabled }) id s.accounts }

-- one more token, which is live
abbrev pub with_token : Text → ℕ → Endpoints → List Text → Registry → Registry
with_token digest account endpoints patterns s = record s {
  tokens = s.tokens ++ record {
    digest = digest;
    account = account;
    live = true;
    endpoints = endpoints;
    patterns = patterns;
  } ∷ [];
}

-- the token with this id is no longer live
abbrev pub with_revoked : ℕ → Registry → Registry
with_revoked id s = record s { tokens = change_at (λ t. record t { live = false }) id s.tokens }

-- one more publication, the newest
abbrev pub with_publication : Publication → Registry → Registry
with_publication p s = record s { publications = s.publications ++ p ∷ [] }

-- one more owner of the crate with a canonical text, and one less
abbrev pub with_owner : Owner → Registry → Registry
with_owner o s = record s { owners = finset.insert s.owners o }

-- a version is yanked, or no longer
abbrev pub with_yanked : Bool → Mark → Registry → Registry
with_yanked yanked m s =
    record s { yanked = if yanked then finset.insert s.yanked m else finset.remove s.yanked m }

-- a canonical text is reserved, or no longer
abbrev pub with_reserved : Text → Registry → Registry
with_reserved c s = record s { reserved = finset.insert s.reserved c }

abbrev pub without_reserved : Text → Registry → Registry
without_reserved c s = record s { reserved = finset.remove s.reserved c }

-- a crate is restricted to those who may see it, or open to all
abbrev pub with_restricted : Bool → Text → Registry → Registry
with_restricted restricted c s = record s {
  restricted = if restricted then finset.insert s.restricted c else finset.remove s.restricted c;
}

-- one more reader of the crate with a canonical text, and one less
abbrev pub with_reader : Owner → Registry → Registry
with_reader r s = record s { readers = finset.insert s.readers r }

abbrev pub without_reader : Owner → Registry → Registry
without_reader r s = record s { readers = finset.remove s.readers r }
