-- What refuses a request, and what refuses a command.
use Rattle.std.specs.Prelude.{◌==◌, ◌&&◌, ◌||◌, nat_le, nat_lt, Bool, not, is_none, is_some, List, [], ◌∷◌, length, Option, Some, None, true, codes}
use Rattle.std.specs.Option.{option_map}
use Rattle.std.specs.List.{find, list_all, list_any}
use Rattle.reg_names.specs.Names.{is_name}
use Rattle.reg_names.specs.Logins.{is_login}
use Rattle.reg_names.specs.Patterns.{is_pattern}
use Rattle.reg_model.specs.declared.rule.Rule.{Rule}
use Rattle.reg_model.specs.declared.rule.Rule.TheVariants as rule
use Rattle.reg_model.specs.declared.rule.AdminRefusal.{AdminRefusal}
use Rattle.reg_model.specs.declared.rule.AdminRefusal.TheVariants as refusal
use Rattle.reg_body.specs.declared.limits.Limits.{Limits}
use Rattle.reg_model.specs.Registry.{Text, Registry, id_of_login, token_of, with_id}
use Rattle.reg_model.specs.Crates.{exists}
use Rattle.reg_model.specs.Events.{Asked, Command, action_of, fault_of}
use Rattle.reg_model.specs.Events.Command.{UserAdd, UserDisable, UserEnable, TokenAdd, TokenRevoke, Reserve, Unreserve, OwnerAdd, Access, Users, Tokens, Crates, CrateRestrict, CrateOpen, ReaderAdd, ReaderRemove}
use Rattle.reg_model.specs.Facts.{access_facts, counts, is_named}
use Rattle.reg_model.specs.Actions.{Action}
use Rattle.reg_model.specs.Rules.{verdict}
use Rattle.std.specs.Str.{bytes_eq}
use Rattle.reg_names.specs.declared.endpoint.Endpoints.{Endpoints}

abbrev pub or_else : Option Rule → Option Rule → Option Rule
or_else None then = then
or_else (Some r) then = Some r

-- an account's name: 1 to 100 characters from space to `~`
abbrev pub is_account_name : Text → Bool
is_account_name t = (nat_lt 0 (length t) && nat_le (length t) 100) && list_all
    (λ b. nat_le 32 b && nat_le b 126) t

abbrev pub may_name : Option Text → Bool
may_name None = true
may_name (Some t) = is_account_name t

-- the words for the endpoints
abbrev endpoint_words : List Text
endpoint_words = codes "publish-new" ∷ codes "publish-update" ∷ codes "yank" ∷ codes "change-owners"
    ∷ []

abbrev pub is_endpoint : Text → Bool
is_endpoint w = is_named endpoint_words w

abbrev pub among : List Text → Text → Bool
among words w = list_any (λ v. bytes_eq v w) words

-- the endpoints that the words name
abbrev pub endpoints_named : List Text → Endpoints
endpoints_named words = record {
  publish_new = among words (codes "publish-new");
  publish_update = among words (codes "publish-update");
  yank = among words (codes "yank");
  change_owners = among words (codes "change-owners");
}

-- the patterns that are given: where there are none, the one that covers all names
abbrev pub patterns_given : List Text → List Text
patterns_given [] = codes "*" ∷ []
patterns_given (p ∷ ps) = p ∷ ps

-- the first rule on the state that the token's action breaks
abbrev pub judged : Limits → Registry → Text → Action → Option Rule
judged limits s digest a = verdict limits (access_facts s digest a) (counts s a) a

-- The rule that refuses a request: first that there is a token, then the rules on the state, then
-- what the body or the query breaks.
unfoldable pub denied : Limits → Registry → Option Text → Asked → Option Rule
denied limits s None asked = Some rule.A1
denied limits s (Some digest) asked = or_else (judged limits s digest (action_of asked))
    (fault_of asked)

-- whether no account has the login; whether no crate is there
abbrev pub no_login : Registry → Text → AdminRefusal × Bool
no_login s login = (refusal.G3, is_none (id_of_login s login))

abbrev pub no_crate : Registry → Text → AdminRefusal × Bool
no_crate s n = (refusal.G8, not (is_name n && exists s n))

-- What refuses each command, in its order, with the test of each.
abbrev pub grounds : Limits → Registry → Command → List (AdminRefusal × Bool)
grounds limits s (UserAdd login name) =
    (refusal.G1, not (is_login login && may_name name))
    ∷ (refusal.G2, is_some (id_of_login s login))
    ∷ (refusal.G7, nat_le limits.accounts (length s.accounts)) ∷ []
grounds limits s (UserDisable login) = no_login s login ∷ []
grounds limits s (UserEnable login) = no_login s login ∷ []
grounds limits s (TokenAdd login words patterns digest) =
    no_login s login
    ∷ (refusal.G9, length words == 0 || not (list_all is_endpoint words))
    ∷ (refusal.G4, not (list_all is_pattern patterns))
    ∷ (
      refusal.G7,
      nat_lt limits.patterns (length (patterns_given patterns)) || nat_le limits.tokens
          (length s.tokens),
    )
    ∷ (refusal.G5, is_some (token_of s digest)) ∷ []
grounds limits s (TokenRevoke id) = (refusal.G6, is_none (with_id s.tokens id)) ∷ []
grounds limits s (Reserve n) = (refusal.G4, not (is_name n)) ∷ []
grounds limits s (Unreserve n) = (refusal.G4, not (is_name n)) ∷ []
grounds limits s (OwnerAdd n login) = no_crate s n ∷ no_login s login ∷ []
grounds limits s (Access n) = (refusal.G4, not (is_name n)) ∷ []
grounds limits s Users = []
grounds limits s Tokens = []
grounds limits s Crates = []
grounds limits s (CrateRestrict n) = no_crate s n ∷ []
grounds limits s (CrateOpen n) = no_crate s n ∷ []
grounds limits s (ReaderAdd n login) = no_crate s n ∷ no_login s login ∷ []
grounds limits s (ReaderRemove n login) = no_crate s n ∷ no_login s login ∷ []

-- The first ground whose test passes.
unfoldable pub refused : Limits → Registry → Command → Option AdminRefusal
refused limits s c = option_map (λ g. g.0) (find (λ g. g.1) (grounds limits s c))
