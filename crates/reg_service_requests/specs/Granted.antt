-- What a request is answered that the rules on access let pass.
use Rattle.std.specs.Prelude.{◌≡◌, ℕ, Bool, true, false, None, Some, Result}
use Rattle.sqlite.specs.Tree.{Trees}
use Rattle.sqlite_trees.specs.declared.store.Store.{Ghosts}
use Rattle.reg_access.specs.Admitted.{IsPrincipalOf, IsCrateOf, IsIdOf, version_named}
use Rattle.reg_access.specs.declared.admission.Principal.{Principal}
use Rattle.reg_access.specs.declared.admission.FoundCrate.{FoundCrate}
use Rattle.reg_body.specs.declared.limits.Limits.{Limits}
use Rattle.reg_model.specs.Actions.{Action, crate_of}
use Rattle.reg_model.specs.Events.{Asked, action_of}
use Rattle.reg_model.specs.Events.Asked.{Unyank, Yank}
use Rattle.reg_model.specs.Facts.{access_facts}
use Rattle.reg_model.specs.Registry.{Text}
use Rattle.reg_model.specs.Rules.{access}
use Rattle.reg_tables_represent.specs.Calls.{Tells}
use Rattle.reg_tables.specs.declared.work.StoreFault.{StoreFault}
use Rattle.reg_tables.specs.declared.work.Work.{Work}
use Rattle.reg_tables.specs.Calling.{Updates}
use Rattle.reg_service_requests.specs.Serves.{Serves}
use Rattle.reg_service_requests.specs.declared.served.Served.{Served}

-- the rules on access let the token's action pass
abbrev pub IsAuthorized : Text → Action → Trees → Type 0
IsAuthorized digest a db = Tells (λ ids s. access (access_facts s digest a) a ≡ None) db

-- this is who asks with the token, and the crate of the action
abbrev pub IsPrincipal : Text → Action → Principal → Trees → Type 0
IsPrincipal digest a principal db = Tells (λ ids s. IsPrincipalOf ids s digest a principal) db

-- this is the crate of an action
abbrev pub IsCrate : Action → FoundCrate → Trees → Type 0
IsCrate a it db = Tells (λ ids s. IsCrateOf ids s (crate_of a) it) db

-- this is the id of the version of an action
abbrev pub IsVersion : Action → ℕ → Trees → Type 0
IsVersion a id db = Tells (λ ids s. IsIdOf ids (version_named s a) (Some id)) db

-- what they let pass is served to this caller, under these limits, with any token
abbrev pub GrantsTo : {S
    : Type 0} → Limits → Principal → Ghosts S → Asked → Result Served StoreFault
    → Work S → Work S → Type 0
GrantsTo limits principal g asked r old new =
    Updates g old new r (λ before after it. (digest : Text)
    → IsAuthorized digest (action_of asked) before
    → IsPrincipal digest (action_of asked) principal before
    → Serves limits (Some digest) asked before after it)

-- it is so under any limits, to any caller
abbrev pub Grants : {S : Type 0} → Ghosts S → Asked → Result Served StoreFault → Work S → Work S
    → Type 0
Grants g asked r old new =
    Updates g old new r (λ before after it. (limits : Limits) (digest : Text)
    → IsAuthorized digest (action_of asked) before
    → Serves limits (Some digest) asked before after it)

-- it is so of this crate, by whichever text the request names it
abbrev pub GrantsOf : {S : Type 0} → FoundCrate → Ghosts S → (Text → Asked)
    → Result Served StoreFault → Work S → Work S → Type 0
GrantsOf found g asked r old new =
    Updates g old new r (λ before after it. (text : Text) (limits : Limits) (digest : Text)
    → IsAuthorized digest (action_of (asked text)) before
    → IsCrate (action_of (asked text)) found before
    → Serves limits (Some digest) (asked text) before after it)

-- it is so of the version with this id, by whichever texts the request names it
abbrev pub GrantsVersion : {S : Type 0} → ℕ → Ghosts S → (Text → Text → Asked)
    → Result Served StoreFault → Work S → Work S → Type 0
GrantsVersion id g asked r old new =
    Updates g old new r (λ before after it. (name text : Text) (limits : Limits) (digest : Text)
    → IsAuthorized digest (action_of (asked name text)) before
    → IsVersion (action_of (asked name text)) id before
    → Serves limits (Some digest) (asked name text) before after it)

-- the request that yanks a version, or takes that back
abbrev pub marking : Bool → Text → Text → Asked
marking true n v = Yank n v
marking false n v = Unyank n v
