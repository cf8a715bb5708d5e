-- What publishing asks of the tables, and what it makes of the answers.
use Rattle.std.specs.Prelude.{◌≡◌, ℕ, Bool, None, Some}
use Rattle.sqlite.specs.Tree.{Trees}
use Rattle.reg_body.specs.declared.limits.Limits.{Limits}
use Rattle.reg_model.specs.Crates.{first}
use Rattle.reg_model.specs.Events.{action_of}
use Rattle.reg_model.specs.Events.Asked.{Publish}
use Rattle.reg_model.specs.Refusals.{denied}
use Rattle.reg_model.specs.Registry.{Publication, Text}
use Rattle.reg_tables_represent.specs.Calls.{ReachesCrates, ReachesVersions, Tells}
use Rattle.reg_tables_represent.specs.Stands.{spelling_at}
use Rattle.reg_access.specs.declared.admission.FoundCrate.{FoundCrate}
use Rattle.reg_service_requests.specs.Granted.{IsAuthorized}
use Rattle.reg_service_steps.specs.Named.{IsViewer}
use Rattle.reg_service_requests.specs.Serves.{Serves}
use Rattle.reg_service_requests.specs.declared.served.Served.{Served}

-- no crate has the name that is published; or this one has, in its own spelling
abbrev pub IsNew : Publication → Trees → Type 0
IsNew p db = Tells (λ ids s. first s p.name ≡ None) db

abbrev pub IsOf : FoundCrate → Publication → Trees → Type 0
IsOf c p db = Tells
    (λ ids s. (first s p.name ≡ Some c.name) × (spelling_at ids c.id ≡ Some c.name)) db

-- whether there are as many crates as there may be
abbrev pub TellsFull : Limits → Trees → Bool → Type 0
TellsFull limits = ReachesCrates limits.crates

-- whether a crate has as many versions as it may have
abbrev pub TellsFullOf : Limits → FoundCrate → Trees → Bool → Type 0
TellsFullOf limits c = ReachesVersions c.id c.name limits.versions

-- a crate is made that this account owns, where nothing denies it
abbrev pub MakesCrate : ℕ → Publication → Trees → Trees → Served → Type 0
MakesCrate owner p old new it = (limits : Limits) (digest : Text) → IsViewer digest owner old
    → IsNew p old → Tells (λ ids s. denied limits s (Some digest) (Publish p) ≡ None) old
    → Serves limits (Some digest) (Publish p) old new it

-- the first version of a crate is published for this account, and a further one of this crate
abbrev pub PublishesFirst : Limits → ℕ → Publication → Trees → Trees → Served → Type 0
PublishesFirst limits owner p old new it =
    (digest : Text) → IsViewer digest owner old → IsNew p old
    → IsAuthorized digest (action_of (Publish p)) old
    → Serves limits (Some digest) (Publish p) old new it

abbrev pub PublishesNext : Limits → FoundCrate → Publication → Trees → Trees → Served → Type 0
PublishesNext limits c p old new it =
    (digest : Text) → IsOf c p old → IsAuthorized digest (action_of (Publish p)) old
    → Serves limits (Some digest) (Publish p) old new it
