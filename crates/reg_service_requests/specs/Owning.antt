-- How the owners of a crate are changed: who is found for the logins of a request, and what is made
-- of them.
use Rattle.std.specs.Prelude.{◌≡◌, ℕ, Bool, true, false, not, if◌then◌else◌, List, Option, Some, None, Result, Ok, Err, Vec, map}
use Rattle.std.specs.declared.alloc.Global.{Global}
use Rattle.std.specs.FinSet as finset
use Rattle.std.specs.List.{filter_map, find, list_all}
use Rattle.std.specs.Option.{option_map}
use Rattle.std.specs.Str.{bytes_eq}
use Rattle.sqlite.specs.Tree.{Trees}
use Rattle.reg_model.specs.declared.rule.Rule.{Rule}
use Rattle.reg_model.specs.declared.rule.Rule.TheVariants as rule
use Rattle.reg_model.specs.Crates.{owners}
use Rattle.reg_model.specs.Effects.{owners_of}
use Rattle.reg_model.specs.Events.{Asked}
use Rattle.reg_model.specs.Events.Answer.{Granted}
use Rattle.reg_model.specs.Events.Asked.{AddOwners, RemoveOwners}
use Rattle.reg_model.specs.Facts.{has_login, is_named}
use Rattle.reg_model.specs.Registry as model
use Rattle.reg_model.specs.Registry.{Registry, Text, id_of_login, ids_of, is_known, owner_cmp}
use Rattle.reg_model.specs.Sound.{Sound}
use Rattle.reg_api_replies.specs.Replies.{Says}
use Rattle.reg_api_replies.specs.declared.reply.Reply.{Reply}
use Rattle.reg_tables_sql.specs.declared.accounts.Account.{Account}
use Rattle.reg_tables_represent.specs.Calls.{ListsOwners, Tells, Transforms}
use Rattle.reg_tables_represent.specs.Changes.{no_owner_at, owner_at}
use Rattle.reg_tables_represent.specs.Entries.{entry_of_account}
use Rattle.reg_tables_represent.specs.Stands.{StandsSoundBy, IdAssignment, StandsBy, spelling_at}
use Rattle.reg_service_steps.specs.Named.{IsSpelled}
use Rattle.reg_access.specs.declared.admission.FoundCrate.{FoundCrate}
use Rattle.reg_body.specs.declared.limits.Limits.{Limits}
use Rattle.reg_model.specs.Events.{action_of}
use Rattle.reg_tables.specs.Calling.{Updates}
use Rattle.reg_tables.specs.declared.work.StoreFault.{StoreFault}
use Rattle.reg_tables.specs.declared.work.Work.{Work}
use Rattle.sqlite_trees.specs.declared.store.Store.{Ghosts}
use Rattle.reg_service_requests.specs.Granted.{IsCrate, IsAuthorized}
use Rattle.reg_service_requests.specs.Serves.{Serves}
use Rattle.reg_service_requests.specs.declared.served.Served.{Served}
use Rattle.reg_service_requests.specs.declared.served.Served.TheVariants.{Done}

-- the request that makes accounts owners of a crate, or no longer
abbrev pub owning : Bool → Text → List Text → Asked
owning true n logins = AddOwners n logins
owning false n logins = RemoveOwners n logins

-- what is found for a login: nothing where the test fails, or this id
abbrev pub IsIdOf : (Text → Bool) → (Text → Option ℕ) → Text → Option ℕ → Type 0
IsIdOf test search login None = test login ≡ false
IsIdOf test search login (Some id) = (test login ≡ true) × (search login ≡ Some id)

-- what is found for logins: nothing where the test fails on one, or these ids
abbrev pub AreIdsOf : (Text → Bool) → (Text → Option ℕ) → List Text → Option (Vec ℕ Global)
    → Type 0
AreIdsOf test search logins None = list_all test logins ≡ false
AreIdsOf test search logins (Some ids) = (list_all test logins ≡ true)
    × (ids.items ≡ filter_map search logins)

-- the account of this login, if it is enabled, and those of these logins, if all are
abbrev pub enabled_id : Option Account → Option ℕ
enabled_id None = None
enabled_id (Some a) = if a.enabled then Some a.id else None

abbrev pub FindsKnown : Text → Trees → Option ℕ → Type 0
FindsKnown login db found =
    Tells (λ ids s. IsIdOf (is_known s) (id_of_login s) login found) db

abbrev pub FindsAllKnown : List Text → Trees → Option (Vec ℕ Global) → Type 0
FindsAllKnown logins db found =
    Tells (λ ids s. AreIdsOf (is_known s) (id_of_login s) logins found) db

-- owners behind their ids, as they are stored
abbrev pub entries_of : List Account → List (ℕ × model.Account)
entries_of list = map entry_of_account list

-- the id of the owner with a login
abbrev pub id_among : List (ℕ × model.Account) → Text → Option ℕ
id_among list login = option_map (λ o. o.0) (find (λ o. bytes_eq o.1.login login) list)

-- the rule that is broken where owners leave that have these logins
abbrev pub leaving_rule : List (ℕ × model.Account) → List Text → Option Rule
leaving_rule list logins =
    if not (list_all (has_login list) logins) then Some rule.O3 else
    if list_all (λ o. is_named logins o.1.login) list then Some rule.O4 else None

-- the ids of those who leave, or why they may not
abbrev pub AreLeaving : List Account → List Text → Result (Vec ℕ Global) Rule → Type 0
AreLeaving list logins (Err r) = leaving_rule (entries_of list) logins ≡ Some r
AreLeaving list logins (Ok ids) = (leaving_rule (entries_of list) logins ≡ None)
    × (ids.items ≡ filter_map (id_among (entries_of list)) logins)

-- the rule on logins that the request breaks
abbrev pub logins_rule : Bool → Registry → Text → List Text → Option Rule
logins_rule true s n logins = if not (list_all (is_known s) logins) then Some rule.O2 else None
logins_rule false s n logins = leaving_rule (owners s n) logins

-- the accounts of the request, or the rule on logins that it breaks, where the crate has this id
abbrev pub FindsOwners : Bool → ℕ → List Text → Trees → Result (Vec ℕ Global) Rule → Type 0
FindsOwners are id logins db (Err r) =
    Tells (λ ids s. (n : Text) → IsSpelled ids n id → logins_rule are s n logins ≡ Some r) db
FindsOwners are id logins db (Ok accounts) =
    Tells (λ ids s. (n : Text) → IsSpelled ids n id → (logins_rule are s n logins ≡ None)
    × (accounts.items ≡ ids_of s logins)) db

-- owners with these accounts of a crate, or without them
abbrev pub owners_set : Bool → Text → List ℕ → finset.FinSet owner_cmp → finset.FinSet owner_cmp
owners_set true n accounts held = finset.union held (owners_of n accounts)
owners_set false n accounts held = finset.difference held (owners_of n accounts)

abbrev pub with_owners : Bool → Text → List ℕ → Registry → Registry
with_owners are n accounts s = record s { owners = owners_set are n accounts s.owners }

-- an account becomes an owner of the crate with this id, or no longer is one
abbrev pub owner_set_at : Bool → IdAssignment → ℕ → ℕ → Registry → Registry
owner_set_at true = owner_at
owner_set_at false = no_owner_at

abbrev pub SetsOwner : Bool → ℕ → ℕ → Trees → Trees → Type 0
SetsOwner are id account = Transforms (λ ids. owner_set_at are ids id account)

-- where the registry is sound once all of these are owners, or none is, some of them become it
abbrev pub SetsSome : Bool → ℕ → List ℕ → List ℕ → Trees → Trees → Type 0
SetsSome are id all some old new =
    (ids : IdAssignment) (s : Registry) (n : Text) → StandsSoundBy ids s old
    → spelling_at ids id ≡ Some n
    → Sound (with_owners are n all s) → StandsBy ids (with_owners are n some s) new

-- all of them become it
abbrev pub SetsOwners : Bool → ℕ → List ℕ → Trees → Trees → Type 0
SetsOwners are id accounts = SetsSome are id accounts accounts

-- the reply that tells that owners were changed
abbrev pub SaysOwning : Bool → Reply → Type 0
SaysOwning are reply = (n : Text) (logins : List Text) → Says (owning are n logins) Granted reply

-- they become it, and that is what is told
abbrev pub DoesOwning : Bool → ℕ → List ℕ → Trees → Trees → Served → Type 0
DoesOwning are id accounts old new (Done reply) = SaysOwning are reply
    × SetsOwners are id accounts old new
DoesOwning are id accounts old new _ = ⊥

-- what the rules on access let pass is served of this crate, whose owners are these, by whichever
-- text the request names it
abbrev pub GrantsAmong : {S : Type 0} → List Account → FoundCrate → Ghosts S → Bool → List Text
    → Result Served StoreFault → Work S → Work S → Type 0
GrantsAmong list found g are logins r old new =
    Updates g old new r (λ before after it. ListsOwners found.id before list
    → (n : Text) (limits : Limits) (digest : Text)
    → IsAuthorized digest (action_of (owning are n logins)) before
    → IsCrate (action_of (owning are n logins)) found before
    → Serves limits (Some digest) (owning are n logins) before after it)
