-- One step of a registry, and runs of steps.
use Rattle.std.specs.Prelude.{◌≡◌, ◌⊎◌, true, List, [], ◌∷◌, length, Option, Some, None, unwrap_or, Bool, false}
use Rattle.reg_model.specs.declared.rule.Rule.{Rule}
use Rattle.reg_model.specs.declared.rule.Rule.TheVariants as rule
use Rattle.reg_model.specs.declared.rule.AdminRefusal.{AdminRefusal}
use Rattle.reg_model.specs.declared.rule.AdminRefusal.TheVariants as refusal
use Rattle.reg_body.specs.declared.limits.Limits.{Limits}
use Rattle.reg_model.specs.Registry.{Registry, Publication}
use Rattle.reg_model.specs.Events.{Event, Answer}
use Rattle.reg_model.specs.Events.Asked.{Malformed, Publish}
use Rattle.reg_model.specs.Events.Command.{TokenAdd}
use Rattle.reg_model.specs.Events.Event.{Ask, Order}
use Rattle.reg_model.specs.Events.Answer.{Denied, Refused}
use Rattle.reg_model.specs.Refusals.{denied, refused}
use Rattle.reg_model.specs.Effects.{served, done, caller, replied, commanded}
use Rattle.reg_names.specs.Names.{is_name}
use Rattle.sha2.specs.Sha256.{sha256}
use Rattle.reg_versions.specs.Versions.{is_version}
use Rattle.reg_line.specs.StemCheck.{IsStemOf}

-- a publication whose parts belong together: the digest is that of the archive, and the stem is
-- that of some manifest that keeps the rules on metadata, of this name and version and with this
-- digest
pub record IsGenuine (p : Publication) : Type 0 where
  pub name : is_name p.name ≡ true
  pub version : is_version p.version ≡ true
  pub digest : sha256 p.archive ≡ p.digest
  pub stem : IsStemOf p.stem p.name p.version p.digest

-- the rules that a body or a query breaks by itself, whatever the state
abbrev pub is_own_rule : Rule → Bool
is_own_rule rule.B1 = true
is_own_rule rule.B2 = true
is_own_rule rule.B3 = true
is_own_rule rule.B4 = true
is_own_rule rule.B5 = true
is_own_rule rule.N1 = true
is_own_rule rule.V1 = true
is_own_rule rule.M1 = true
is_own_rule rule.O1 = true
is_own_rule rule.Q1 = true
is_own_rule _ = false

-- an outcome: what is answered, and the state after it
abbrev pub Outcome : Type 0
Outcome = Answer × Registry

abbrev pub unless_denied : Registry → Option Rule → Outcome → Outcome
unless_denied s (Some r) o = (Denied r, s)
unless_denied s None o = o

abbrev pub unless_refused : Registry → Option AdminRefusal → Outcome → Outcome
unless_refused s (Some g) o = (Refused g, s)
unless_refused s None o = o

-- The outcome of an event: it is refused and changes nothing, or it is done.
abbrev pub outcome : Limits → Registry → Event → Outcome
outcome limits s (Ask digest asked) = unless_denied s (denied limits s digest asked)
    (served s (caller s digest) asked, done s (unwrap_or (caller s digest) 0) asked)
outcome limits s (Order c) = unless_refused s (refused limits s c) (replied s c, commanded s c)

-- what is answered where memory or the store is refused
abbrev pub unavailable : Event → Answer
unavailable (Ask digest asked) = Denied rule.S1
unavailable (Order c) = Refused refusal.G10

-- From s, the event may be answered a and lead to t: this is its outcome, or room was refused and
-- nothing changed.
abbrev pub Step : Limits → Registry → Event → Answer → Registry → Type 0
Step limits s e a t = ((a ≡ (outcome limits s e).0) × (t ≡ (outcome limits s e).1))
    ⊎ ((a ≡ unavailable e) × (t ≡ s))

-- what an event may bring: a faulty body or query breaks a rule of its own, a publication is
-- genuine, and the digest of a token has 32 bytes
abbrev pub IsFit : Event → Type 0
IsFit (Ask digest (Malformed r)) = is_own_rule r ≡ true
IsFit (Ask digest (Publish p)) = IsGenuine p
IsFit (Order (TokenAdd login words patterns digest)) = length digest ≡ 32
IsFit _ = Unit {0}

-- Steps one after another, on events that are fit.
abbrev pub Run : Limits → Registry → List Event → List Answer → Registry → Type 0
Run limits s [] [] t = t ≡ s
Run limits s (e ∷ es) (a ∷ as') t = IsFit e × ((m : Registry) × Step limits s e a m
    × Run limits m es as' t)
Run limits s [] (a ∷ as') t = ⊥
Run limits s (e ∷ es) [] t = ⊥
