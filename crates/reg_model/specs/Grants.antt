-- Who may act on a crate, and who may read it: the report that the administrator asks for.
use Rattle.std.specs.Prelude.{ℕ, ◌&&◌, if◌then◌else◌, Bool, not, List, [], ◌∷◌, map}
use Rattle.std.specs.List.{enumerate_from, filter, flat_map, list_any}
use Rattle.reg_names.specs.Patterns.{covers}
use Rattle.reg_names.specs.declared.endpoint.Endpoint.{Endpoint}
use Rattle.reg_names.specs.declared.endpoint.Endpoint.TheVariants as endpoint
use Rattle.reg_model.specs.Registry.{Text, Account, Token, Registry, is_enabled}
use Rattle.reg_model.specs.Crates.{exists, is_among, is_reserved, is_restricted, owners, readers}
use Rattle.reg_model.specs.Rules.{has_endpoint}

abbrev pub all_endpoints : List Endpoint
all_endpoints = endpoint.PublishNew ∷ endpoint.PublishUpdate ∷ endpoint.Yank
    ∷ endpoint.ChangeOwners ∷ []

-- whether an account has the right that an endpoint is for: the crate is its own, or is free to be
-- made
abbrev pub has_right : Registry → Text → ℕ → Endpoint → Bool
has_right s n id endpoint.PublishNew = not (exists s n) && not (is_reserved s n)
has_right s n id e = is_among (owners s n) id

-- whether a token may use an endpoint on a crate
abbrev pub is_granted : Registry → Text → Token → Endpoint → Bool
is_granted s n t e = (t.live && is_enabled s t.account)
    && (has_endpoint t.endpoints e
    && (list_any (λ p. covers p n) t.patterns && has_right s n t.account e))

-- Each token and endpoint that may be used on a crate, by token and then by endpoint, each pair
-- once.
unfoldable pub grants : Registry → Text → List (ℕ × Endpoint)
grants s n = flat_map
    (λ t. map (λ e. (t.0, e)) (filter (is_granted s n t.1) all_endpoints))
    (enumerate_from 1 s.tokens)

-- the readers of a restricted crate, by id
abbrev pub who_reads : Registry → Text → List (ℕ × Account)
who_reads s n = if is_restricted s n then readers s n else []
