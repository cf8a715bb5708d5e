-- The rules that look at the state: when each is broken, in which order they are asked, and the
-- first that is broken.
use Rattle.std.specs.Prelude.{nat_le, if◌then◌else◌, ◌&&◌, Bool, true, false, not, is_some, List, [], ◌∷◌, Option, Some, None}
use Rattle.std.specs.List.{find, filter}
use Rattle.std.specs.Str.{bytes_eq}
use Rattle.reg_names.specs.Names.{path_of}
use Rattle.reg_body.specs.declared.limits.Limits.{Limits}
use Rattle.reg_names.specs.declared.endpoint.Endpoint.{Endpoint}
use Rattle.reg_names.specs.declared.endpoint.Endpoint.TheVariants as endpoint
use Rattle.reg_model.specs.declared.rule.Rule.{Rule}
use Rattle.reg_model.specs.declared.rule.Rule.TheVariants as rule
use Rattle.reg_model.specs.Registry.{Text, holds}
use Rattle.reg_model.specs.Actions.{Action}
use Rattle.reg_model.specs.Actions.Action.{Read, Index, Download, ListOwners, Publish, Yank, Unyank, AddOwners, RemoveOwners}
use Rattle.reg_model.specs.Facts.{Access, Counts}
use Rattle.reg_names.specs.declared.endpoint.Endpoints.{Endpoints}

abbrev pub has_endpoint : Endpoints → Endpoint → Bool
has_endpoint s endpoint.PublishNew = s.publish_new
has_endpoint s endpoint.PublishUpdate = s.publish_update
has_endpoint s endpoint.Yank = s.yank
has_endpoint s endpoint.ChangeOwners = s.change_owners

abbrev pub lacks : Endpoints → Option Endpoint → Bool
lacks s None = false
lacks s (Some e) = not (has_endpoint s e)

-- the endpoint that the action needs, where this is the crate's spelling; reading needs none
abbrev pub needed : Option Text → Action → Option Endpoint
needed first (Publish n v) =
    Some (if is_some first then endpoint.PublishUpdate else endpoint.PublishNew)
needed first (Yank n v) = Some endpoint.Yank
needed first (Unyank n v) = Some endpoint.Yank
needed first (AddOwners n logins) = Some endpoint.ChangeOwners
needed first (RemoveOwners n logins) = Some endpoint.ChangeOwners
needed first _ = None

-- whether no crate is seen, or the path is not that of the one that is seen
abbrev pub is_absent : Access → Action → Bool
is_absent f (Index path) = not (f.is_visible && holds (λ n. bytes_eq (path_of n) path) f.first)
is_absent f a = not f.is_visible

-- whether the crate is there under another spelling than is published
abbrev pub is_misspelled : Access → Action → Bool
is_misspelled f (Publish n v) = not (holds (λ m. bytes_eq m n) f.first)
is_misspelled f a = false

-- Whether the action breaks the rule on access, where these are the facts.
abbrev pub breaks : Access → Action → Rule → Bool
breaks f a rule.A2 = not f.is_known
breaks f a rule.A3 = not f.is_live
breaks f a rule.A4 = not f.is_enabled
breaks f a rule.A6 = lacks f.endpoints (needed f.first a)
breaks f a rule.A7 = not f.is_covered
breaks f a rule.A8 = is_absent f a
breaks f a rule.A9 = not f.is_owner
breaks f a rule.A10 = not f.has_version
breaks f a rule.N2 = f.is_reserved
breaks f a rule.N3 = is_misspelled f a
breaks f a rule.V2 = f.has_release
breaks f a _ = false

-- Whether it breaks the rule, access or not. No state breaks the rules of heads, bodies and
-- queries.
abbrev pub broken : Limits → Access → Counts → Action → Rule → Bool
broken limits f c a rule.L1 = nat_le limits.versions c.versions
broken limits f c a rule.L2 = nat_le limits.crates c.crates
broken limits f c a rule.O2 = not c.are_known
broken limits f c a rule.O3 = not c.are_owners
broken limits f c a rule.O4 = c.are_all_owners
broken limits f c a r = breaks f a r

-- The rules of each action, in their order, where this is the crate's spelling. Behind A4 stands
-- what the body or the query of a request breaks: such a request is read no further, and its action
-- is `Read`.
abbrev pub order : Option Text → Action → List Rule
order first Read = rule.A2 ∷ rule.A3 ∷ rule.A4 ∷ []
order first (Index path) = rule.A2 ∷ rule.A3 ∷ rule.A4 ∷ rule.A8 ∷ []
order first (Download n v) = rule.A2 ∷ rule.A3 ∷ rule.A4 ∷ rule.A8 ∷ rule.A10 ∷ []
order first (ListOwners n) = rule.A2 ∷ rule.A3 ∷ rule.A4 ∷ rule.A8 ∷ []
order first (Publish n v) =
    if is_some first
    then rule.A2 ∷ rule.A3 ∷ rule.A4 ∷ rule.A6 ∷ rule.A7 ∷ rule.N3 ∷ rule.A9 ∷ rule.V2 ∷ rule.L1
    ∷ []
    else rule.A2 ∷ rule.A3 ∷ rule.A4 ∷ rule.A6 ∷ rule.A7 ∷ rule.N2 ∷ rule.L2 ∷ []
order first (Yank n v) = rule.A2 ∷ rule.A3 ∷ rule.A4 ∷ rule.A6 ∷ rule.A8 ∷ rule.A7 ∷ rule.A9
    ∷ rule.A10 ∷ []
order first (Unyank n v) = rule.A2 ∷ rule.A3 ∷ rule.A4 ∷ rule.A6 ∷ rule.A8 ∷ rule.A7 ∷ rule.A9
    ∷ rule.A10 ∷ []
order first (AddOwners n logins) = rule.A2 ∷ rule.A3 ∷ rule.A4 ∷ rule.A6 ∷ rule.A8 ∷ rule.A7
    ∷ rule.A9 ∷ rule.O2 ∷ []
order first (RemoveOwners n logins) = rule.A2 ∷ rule.A3 ∷ rule.A4 ∷ rule.A6 ∷ rule.A8 ∷ rule.A7
    ∷ rule.A9 ∷ rule.O3 ∷ rule.O4 ∷ []

-- whether a rule is one on access: all that look at the state but those on counts and on the logins
-- that are named
abbrev pub is_access_rule : Rule → Bool
is_access_rule rule.L1 = false
is_access_rule rule.L2 = false
is_access_rule rule.O2 = false
is_access_rule rule.O3 = false
is_access_rule rule.O4 = false
is_access_rule _ = true

-- The first rule on access that is broken.
unfoldable pub access : Access → Action → Option Rule
access f a = find (breaks f a) (filter is_access_rule (order f.first a))

-- The first rule that is broken.
unfoldable pub verdict : Limits → Access → Counts → Action → Option Rule
verdict limits f c a = find (broken limits f c a) (order f.first a)
