-- What is found of a request that is let pass.
use Rattle.std.specs.Prelude.{◌≡◌, ◌==◌, if◌then◌else◌, ℕ, Bool, true, false, IsSome, ⊤, [], ◌∷◌, Option, Some, None, string_bytes}
use Rattle.std.specs.Fmt.{decimal}
use Rattle.std.specs.List.{find}
use Rattle.std.specs.Option.{option_map}
use Rattle.sqlite.specs.Tree.{Trees}
use Rattle.reg_names.specs.Names.{canon}
use Rattle.reg_model.specs.Actions.{Action, crate_of, version_of}
use Rattle.reg_model.specs.Actions.Action.{Publish, Read}
use Rattle.reg_model.specs.Crates.{version, viewer}
use Rattle.reg_model.specs.Facts.{spelling}
use Rattle.reg_model.specs.Registry.{Publication, Registry, Text}
use Rattle.reg_model.specs.Rules.{access}
use Rattle.reg_model.specs.Trail.{asker}
use Rattle.reg_policy.specs.declared.action.Decision.{Decision}
use Rattle.reg_policy.specs.declared.action.Decision.TheVariants as decision
use Rattle.reg_policy.specs.Views.{decision_of}
use Rattle.reg_tables_represent.specs.Calls.{Tells}
use Rattle.reg_tables_represent.specs.Changes.{told_of}
use Rattle.reg_tables_represent.specs.Stands.{IdAssignment, spelling_at}
use Rattle.reg_tables_sql.specs.declared.tokens.TokenRow.{TokenRow}
use Rattle.reg_tables_sql.specs.Tokens.{columns_with_account, tokens_with_accounts}
use Rattle.reg_access.specs.declared.admission.Admission.{Admission}
use Rattle.reg_access.specs.declared.admission.Admission.TheVariants.{Allowed, Denied}
use Rattle.reg_access.specs.declared.admission.Principal.{Principal}
use Rattle.reg_access.specs.declared.admission.FoundCrate.{FoundCrate}
use Rattle.reg_access.specs.declared.finding.CrateFacts.{CrateFacts}
use Rattle.reg_access.specs.declared.found.CrateRow.{CrateRow}
use Rattle.reg_access.specs.Found.{AreFound, facts_found}
use Rattle.reg_access.specs.JoinRows.{names_version}
use Rattle.reg_access.specs.Verdict.{IsVerdict}

abbrev pub decision_in : Admission → Decision
decision_in (Denied r) = decision.Denied r
decision_in (Allowed c) = decision.Allowed

-- this is true of whoever is let pass
abbrev pub OfPrincipal : Admission → (Principal → Type 0) → Type 0
OfPrincipal (Denied r) fact = ⊤
OfPrincipal (Allowed c) fact = fact c

-- this is the crate of the name that is given: it has this spelling, and this id in the tables
pub record IsCrateOf (ids : IdAssignment) (s : Registry) (name : Option Text)
    (c : FoundCrate) : Type 0 where
  pub first : spelling s name ≡ Some c.name
  pub placed : spelling_at ids c.id ≡ Some c.name
  pub alike : option_map canon name ≡ Some (canon c.name)

-- what is found of a name: its crate; or nothing, where no name is given or no crate has it
abbrev pub IsFoundOf : IdAssignment → Registry → Option Text → Option FoundCrate → Type 0
IsFoundOf ids s name None = spelling s name ≡ None
IsFoundOf ids s name (Some c) = IsCrateOf ids s name c

-- the publication of the version with this id in the tables
abbrev pub publication_at : IdAssignment → ℕ → Option Publication
publication_at ids id = option_map (λ v. v.publication) (find (λ v. v.id == id) ids.versions)

-- the version that is to be there for an action, if it is
abbrev pub version_named : Registry → Action → Option Publication
version_named s a =
    if names_version a then told_of (crate_of a) None (λ n. version s n (version_of a)) else None

-- what is found of a version: its id in the tables; or nothing, where it is not there
abbrev pub IsIdOf : IdAssignment → Option Publication → Option ℕ → Type 0
IsIdOf ids p None = p ≡ None
IsIdOf ids p (Some id) = (publication_at ids id ≡ p) × IsSome p

-- the token with this digest and whom it speaks for, and the crate and the version that the action
-- names
pub record IsPrincipalOf (ids : IdAssignment) (s : Registry) (digest : Text) (a : Action)
    (c : Principal) : Type 0
  where
    pub who : asker s digest ≡ decimal c.token ∷ string_bytes c.login ∷ []
    pub account : viewer s digest ≡ Some c.account
    pub found : IsFoundOf ids s (crate_of a) c.found
    pub version : IsIdOf ids (version_named s a) c.version

abbrev pub TellsPrincipal : Text → Action → Trees → Admission → Type 0
TellsPrincipal digest a db it =
    OfPrincipal it (λ c. Tells (λ ids s. IsPrincipalOf ids s digest a c) db)

-- whether an action is let pass only where its crate is there
abbrev pub needs_crate : Action → Bool
needs_crate Read = false
needs_crate (Publish n v) = false
needs_crate _ = true

-- where it is so, its crate was found
abbrev pub HasItsCrate : Action → Admission → Type 0
HasItsCrate a it = OfPrincipal it (λ c. needs_crate a ≡ true → IsSome c.found)

-- and where it names a version, that was found
abbrev pub HasItsVersion : Action → Admission → Type 0
HasItsVersion a it = OfPrincipal it (λ c. names_version a ≡ true → IsSome c.version)

-- a crate as it is handed on
abbrev pub shown_crate : CrateRow → FoundCrate
shown_crate r = record { id = r.id; name = r.name }

-- this token and its account, and the crate and the version of what was found
pub record IsPrincipalIn (t : TokenRow) (it : CrateFacts) (c : Principal) : Type 0 where
  pub token : c.token ≡ t.id
  pub login : c.login ≡ t.login
  pub account : c.account ≡ t.account
  pub found : c.found ≡ option_map shown_crate it.row
  pub version : c.version ≡ it.version

-- what follows from them
pub record IsAdmitted (a : Action) (t : TokenRow) (it : CrateFacts) (m : Admission) : Type 0 where
  pub decided : decision_in m ≡ decision_of (access (facts_found a t it) a)
  pub handed : OfPrincipal m (IsPrincipalIn t it)
  pub there : HasItsCrate a m
  pub named : HasItsVersion a m

-- the token, the account, the crate and the version are those of the rows
pub record ShowsPrincipal (digest : Text) (a : Action) (db : Trees) (c : Principal) : Type 0 where
  pub token : TokenRow
  pub it : CrateFacts
  pub known : tokens_with_accounts digest db ≡ columns_with_account token ∷ []
  pub are : AreFound a token.id token.account db it
  pub handed : IsPrincipalIn token it c

-- what the rows decide, and whom they show
pub record IsAdmission (digest : Text) (a : Action) (db : Trees) (m : Admission) : Type 0 where
  pub decided : IsVerdict digest a db (decision_in m)
  pub shown : OfPrincipal m (ShowsPrincipal digest a db)
