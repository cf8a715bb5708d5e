-- The administrator's reports: a line for each entry, by columns.
use Rattle.std.specs.Prelude.{ℕ, ◌-◌, ◌∷◌, ◌++◌, if◌then◌else◌, List, [], codes, length, map, replicate, Option, Some, None, unwrap_or}
use Rattle.std.specs.Fmt.{decimal}
use Rattle.std.specs.List.{enumerate_from, filter, flat_map, join_with_byte}
use Rattle.std.specs.Option.{option_map}
use Rattle.reg_names.specs.declared.endpoint.Endpoint.{Endpoint}
use Rattle.reg_names.specs.declared.endpoint.Endpoint.TheVariants as endpoint
use Rattle.reg_names.specs.declared.endpoint.Endpoints.{Endpoints}
use Rattle.reg_model.specs.Registry.{Text, Account, Token, Registry, with_id}
use Rattle.reg_model.specs.Crates.{canons, first, versions}
use Rattle.reg_model.specs.Rules.{has_endpoint}
use Rattle.reg_model.specs.Grants.{all_endpoints, grants, who_reads}
use Rattle.reg_model.specs.Search.{top}

-- a column: spaces before or behind a text until it has so many bytes; a longer text pushes on
abbrev pub right : ℕ → Text → Text
right width t = replicate (width - length t) 32 ++ t

abbrev pub left : ℕ → Text → Text
left width t = t ++ replicate (width - length t) 32

-- columns with two spaces between them, and a line feed
abbrev pub line_of : List Text → Text
line_of [] = 10 ∷ []
line_of (c ∷ []) = c ++ 10 ∷ []
line_of (c ∷ d ∷ more) = c ++ codes "  " ++ line_of (d ∷ more)

abbrev pub or_dash : Option Text → Text
or_dash None = codes "-"
or_dash (Some t) = t

abbrev pub with_commas : List Text → Text
with_commas = join_with_byte 44

-- an account: its id, login and state, and its name
abbrev pub user_line : ℕ × Account → Text
user_line a = line_of (right 8 (decimal a.0) ∷ left 32 a.1.login
    ∷ left 8 (if a.1.enabled then codes "enabled" else codes "disabled")
    ∷ or_dash a.1.name ∷ [])

unfoldable pub users_text : Registry → Text
users_text s = flat_map user_line (enumerate_from 1 s.accounts)

abbrev pub word_of : Endpoint → Text
word_of endpoint.PublishNew = codes "publish-new"
word_of endpoint.PublishUpdate = codes "publish-update"
word_of endpoint.Yank = codes "yank"
word_of endpoint.ChangeOwners = codes "change-owners"

abbrev pub endpoint_words : Endpoints → List Text
endpoint_words held = map word_of (filter (has_endpoint held) all_endpoints)

-- the login of an account
abbrev pub login_of : Registry → ℕ → Text
login_of s id = unwrap_or (option_map (λ a. a.login) (with_id s.accounts id)) []

abbrev pub login_of_token : Registry → ℕ → Text
login_of_token s id = unwrap_or (option_map (λ t. login_of s t.account) (with_id s.tokens id)) []

-- a token: its id, its account's login, its state, its endpoints and its patterns
abbrev pub token_line : Text → ℕ × Token → Text
token_line login t = line_of (right 8 (decimal t.0) ∷ left 32 login
    ∷ left 7 (if t.1.live then codes "live" else codes "revoked")
    ∷ with_commas (endpoint_words t.1.endpoints) ∷ with_commas t.1.patterns ∷ [])

unfoldable pub tokens_text : Registry → Text
tokens_text s = flat_map (λ t. token_line (login_of s t.1.account) t) (enumerate_from 1 s.tokens)

-- a crate: its name, how many versions it has, and the highest
abbrev pub crate_line : Text → ℕ → Text → Text
crate_line name count highest = line_of (left 64 name ∷ right 6 (decimal count) ∷ highest ∷ [])

unfoldable pub crates_text : Registry → Text
crates_text s = flat_map (λ c. crate_line (unwrap_or (first s c) []) (length (versions s c))
    (unwrap_or (option_map (λ p. p.version) (top s c)) [])) (canons s)

-- a grant: a token, an endpoint, and the login of the token's account; and a reader
abbrev pub grant_line : ℕ × Endpoint → Text → Text
grant_line g login =
    line_of (right 8 (decimal g.0) ∷ left 14 (word_of g.1) ∷ login ∷ [])

abbrev pub reader_line : Text → Text
reader_line login = line_of (right 8 (codes "-") ∷ left 14 (codes "read") ∷ login ∷ [])

unfoldable pub access_text : Registry → Text → Text
access_text s n = flat_map (λ g. grant_line g (login_of_token s g.0)) (grants s n)
    ++ flat_map (λ r. reader_line r.1.login) (who_reads s n)
