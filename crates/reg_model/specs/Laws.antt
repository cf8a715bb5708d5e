-- The laws of steps and runs.
use Rattle.std.specs.Prelude.{◌≡◌, ◌≢◌, ◌↔◌, ◌≤◌, ◌*◌, ℕ, true, false, not, List, [], ◌∷◌, ◌++◌, length, Option, Some, None, unwrap_or}
use Rattle.std.specs.List.{filter, find}
use Rattle.reg_names.specs.Names.{canon, is_name, path_of}
use Rattle.reg_model.specs.declared.rule.Rule.{Rule}
use Rattle.reg_model.specs.declared.rule.AdminRefusal.{AdminRefusal}
use Rattle.reg_body.specs.declared.limits.Limits.{Limits}
use Rattle.reg_line.specs.Base.{is_base}
use Rattle.reg_line.specs.Shortest.{shortest_line}
use Rattle.reg_names.specs.declared.endpoint.Endpoint.{Endpoint}
use Rattle.reg_model.specs.Lists.{IsIn}
use Rattle.reg_model.specs.Registry.{Text, Token, Registry, empty_at, holds, with_id}
use Rattle.reg_model.specs.Crates.{canons, exists, file, first, is_restricted, stems, versions, visible}
use Rattle.reg_model.specs.declared.rule.Rule.TheVariants as rule
use Rattle.reg_model.specs.Actions.{Action, crate_of}
use Rattle.reg_model.specs.Actions.Action.{Index}
use Rattle.reg_model.specs.Facts.{Access, Counts, access_facts}
use Rattle.reg_model.specs.Rules.{access, breaks, broken, is_access_rule, needed, order, verdict}
use Rattle.reg_model.specs.Refusals.{denied, or_else, refused}
use Rattle.reg_model.specs.Search.{found}
use Rattle.reg_model.specs.Plain.{plain_denied, plain_found, plain_outcome}
use Rattle.reg_model.specs.Grants.{grants}
use Rattle.reg_model.specs.Sight.{HaveOneSight}
use Rattle.reg_model.specs.Events.{Asked, Command, Event, Answer}
use Rattle.reg_model.specs.Events.Asked.{AddOwners, Publish}
use Rattle.reg_model.specs.Events.Event.{Ask, Order}
use Rattle.reg_model.specs.Events.Answer.{Denied, Refused}
use Rattle.reg_model.specs.Steps.{IsFit, Step, Run, unavailable, outcome}
use Rattle.reg_model.specs.Sound.{Sound}

-- a step is a run
abbrev pub StepsRun : Type 0
StepsRun = (limits : Limits) (s t : Registry) (e : Event) (a : Answer) → IsFit e
    → Step limits s e a t → Run limits s (e ∷ []) (a ∷ []) t

-- a run and one from where it ends are a run
abbrev pub RunsJoin : Type 0
RunsJoin = (limits : Limits) (s m t : Registry) (es fs : List Event) (xs ys : List Answer)
    → Run limits s es xs m → Run limits m fs ys t → Run limits s (es ++ fs) (xs ++ ys) t

abbrev pub DenialsKeep : Type 0
DenialsKeep = (limits : Limits) (s t : Registry) (e : Event) (r : Rule) → Step limits s e
    (Denied r) t → t ≡ s

abbrev pub RefusalsKeep : Type 0
RefusalsKeep = (limits : Limits) (s t : Registry) (e : Event) (g : AdminRefusal) → Step limits s e
    (Refused g) t → t ≡ s

-- where room was refused to neither, two steps on one event agree
abbrev pub StepsAgree : Type 0
StepsAgree = (limits : Limits) (s t u : Registry) (e : Event) (a b : Answer) → Step limits s e a t
    → Step limits s e b u → a ≢ unavailable e → b ≢ unavailable e → (a ≡ b) × (t ≡ u)

abbrev pub IsPrefix : {X : Type 0} → List X → List X → Type 0
IsPrefix {X} xs ys = (rest : List X) × (ys ≡ xs ++ rest)

-- the stems of a crate before a run are the first of those after it
abbrev pub StemsGrow : Type 0
StemsGrow = (limits : Limits) (s t : Registry) (es : List Event) (xs : List Answer)
    → Run limits s es xs t → (n : Text) → IsPrefix (stems s n) (stems t n)

abbrev pub StepsKeepSound : Type 0
StepsKeepSound = (limits : Limits) (s t : Registry) (e : Event) (a : Answer) → IsFit e → Sound s
    → Step limits s e a t → Sound t

abbrev pub RunsKeepSound : Type 0
RunsKeepSound = (limits : Limits) (s t : Registry) (es : List Event) (xs : List Answer) → Sound s
    → Run limits s es xs t → Sound t

-- nothing but a base is sound
abbrev pub EmptySound : Type 0
EmptySound = (base : Text) → is_base base ≡ true → Sound (empty_at base)

-- the rule on index paths passes where the path is that of the spelling of a crate that is visible
abbrev pub IndexPathsAreOfCrates : Type 0
IndexPathsAreOfCrates = (s : Registry) (digest path : Text) → Sound s
    → (breaks (access_facts s digest (Index path)) (Index path) rule.A8 ≡ false) ↔
    ((n f : Text) × (first s n ≡ Some f) × (path_of f ≡ path) × (visible s digest n ≡ true))

-- a crate has no more versions than its index file has room for lines
abbrev pub FilesHaveRoom : Type 0
FilesHaveRoom = (s : Registry) (name : Text) → Sound s
    → length (versions s name) * shortest_line name ≤ length (file s name)

-- the first broken rule is the first broken rule on access, or else the first of the others
abbrev pub AccessComesFirst : Type 0
AccessComesFirst = (limits : Limits) (f : Access) (c : Counts) (a : Action) → verdict limits f c a
    ≡ or_else (access f a)
    (find (broken limits f c a) (filter (λ r. not (is_access_rule r)) (order f.first a)))

-- a request is answered with a rule, want of memory aside, exactly where it is denied that rule
abbrev pub DenialsName : Type 0
DenialsName = (limits : Limits) (s t : Registry) (digest : Option Text) (asked : Asked) (a : Answer)
    (r : Rule) → Step limits s (Ask digest asked) a t → a ≢ Denied rule.S1
    → (a ≡ Denied r) ↔ (denied limits s digest asked ≡ Some r)

-- the rules that decide on a grant: on the token, the endpoint, the patterns, whether the crate is
-- seen and owned, and whether its name is reserved
abbrev pub grant_rules : List Rule
grant_rules = rule.A2 ∷ rule.A3 ∷ rule.A4 ∷ rule.A6 ∷ rule.A7 ∷ rule.A8 ∷ rule.A9 ∷ rule.N2 ∷ []

-- a request of a token about a crate, in its first spelling if it is there, that needs the endpoint
-- and breaks none of the rules of its order that decide on a grant
pub record MayAsk (s : Registry) (n digest : Text) (e : Endpoint) (a : Action) : Type 0 where
  pub about : crate_of a ≡ Some (unwrap_or (first s n) n)
  pub needs : needed (first s n) a ≡ Some e
  pub clear : (r : Rule) → IsIn r (order (first s n) a) → IsIn r grant_rules
      → breaks (access_facts s digest a) a r ≡ false

abbrev pub GrantsArePolicy : Type 0
GrantsArePolicy = (s : Registry) (n : Text) (id : ℕ) (e : Endpoint) → Sound s → is_name n ≡ true
    → IsIn (id, e) (grants s n)
    ↔ ((t : Token) × (with_id s.tokens id ≡ Some t) × ((a : Action) × MayAsk s n t.digest e a))

-- requests but publishing and adding owners
abbrev pub ByNoPublishOrOwner : Asked → Type 0
ByNoPublishOrOwner (Publish p) = ⊥
ByNoPublishOrOwner (AddOwners n logins) = ⊥
ByNoPublishOrOwner _ = Unit {0}

-- where two registries have one sight for a token, it is answered the same
abbrev pub SightAnswers : Type 0
SightAnswers = (limits : Limits) (s t : Registry) (digest : Text) (asked : Asked)
    → HaveOneSight s t digest → ByNoPublishOrOwner asked
    → (outcome limits s (Ask (Some digest) asked)).0
    ≡ (outcome limits t (Ask (Some digest) asked)).0

-- no crate is restricted
abbrev pub IsPlain : Registry → Type 0
IsPlain s = (n : Text) → is_restricted s n ≡ false

-- and so requests are denied and answered, and crates found, as before any could be
abbrev pub PlainDenials : Type 0
PlainDenials = (limits : Limits) (s : Registry) (digest : Option Text) (asked : Asked) → IsPlain s
    → denied limits s digest asked ≡ plain_denied limits s digest asked

abbrev pub PlainOutcomes : Type 0
PlainOutcomes = (limits : Limits) (s : Registry) (digest : Option Text) (asked : Asked) → IsPlain s
    → outcome limits s (Ask digest asked) ≡ plain_outcome limits s digest asked

abbrev pub PlainFinds : Type 0
PlainFinds = (s : Registry) (who : Option ℕ) (q : Text) (most : ℕ) → IsPlain s
    → found s who q most ≡ plain_found s q most

-- no limit of the second is smaller
pub record AreWider (l m : Limits) : Type 0 where
  pub versions : l.versions ≤ m.versions
  pub accounts : l.accounts ≤ m.accounts
  pub tokens : l.tokens ≤ m.tokens
  pub crates : l.crates ≤ m.crates
  pub patterns : l.patterns ≤ m.patterns

-- what is allowed under some limits is so under wider ones, with the same outcome
abbrev pub WiderAllows : Type 0
WiderAllows = (l m : Limits) (s : Registry) (digest : Option Text) (asked : Asked) → AreWider l m
    → denied l s digest asked ≡ None
    → (denied m s digest asked ≡ None)
    × (outcome m s (Ask digest asked) ≡ outcome l s (Ask digest asked))

abbrev pub WiderOrders : Type 0
WiderOrders = (l m : Limits) (s : Registry) (c : Command) → AreWider l m → refused l s c ≡ None
    → (refused m s c ≡ None) × (outcome m s (Order c) ≡ outcome l s (Order c))
