-- Requests as they were before crates could be restricted: a crate that is there is seen.
use Rattle.std.specs.Prelude.{ℕ, List, length, map, take, Option, Some, None, unwrap_or}
use Rattle.std.specs.List.{filter}
use Rattle.reg_names.specs.Names.{canon}
use Rattle.reg_body.specs.declared.limits.Limits.{Limits}
use Rattle.reg_model.specs.declared.rule.Rule.{Rule}
use Rattle.reg_model.specs.declared.rule.Rule.TheVariants as rule
use Rattle.reg_model.specs.Registry.{Text, Registry, holds}
use Rattle.reg_model.specs.Crates.{canons, exists}
use Rattle.reg_model.specs.Actions.{Action, crate_of}
use Rattle.reg_model.specs.Facts.{Access, access_facts, counts}
use Rattle.reg_model.specs.Rules.{verdict}
use Rattle.reg_model.specs.Refusals.{or_else}
use Rattle.reg_model.specs.Search.{hit, occurs}
use Rattle.reg_model.specs.Events.{Answer, Asked, FoundCrates, action_of, fault_of}
use Rattle.reg_model.specs.Events.Answer.{Found}
use Rattle.reg_model.specs.Events.Asked.{Read}
use Rattle.reg_model.specs.Events.Reading.{Search as to_search}
use Rattle.reg_model.specs.Effects.{caller, done, served}
use Rattle.reg_model.specs.Steps.{Outcome, unless_denied}

-- the facts on access
abbrev pub plain_facts : Registry → Text → Action → Access
plain_facts s digest a =
    record (access_facts s digest a) { is_visible = holds (exists s) (crate_of a) }

-- the rule that refuses a request
abbrev pub plain_denied : Limits → Registry → Option Text → Asked → Option Rule
plain_denied limits s None asked = Some rule.A1
plain_denied limits s (Some digest) asked =
    or_else (verdict limits (plain_facts s digest (action_of asked)) (counts s (action_of asked))
    (action_of asked)) (fault_of asked)

-- what a search finds
abbrev pub plain_matches : Registry → Text → List Text
plain_matches s q = filter (occurs (canon q)) (canons s)

abbrev pub plain_found : Registry → Text → ℕ → FoundCrates
plain_found s q most = record {
  total = length (plain_matches s q);
  crates = map (hit s) (take most (plain_matches s q));
}

-- what is served
abbrev pub plain_served : Registry → Asked → Answer
plain_served s (Read (to_search q most)) = Found (plain_found s q most)
plain_served s asked = served s None asked

-- the outcome
abbrev pub plain_outcome : Limits → Registry → Option Text → Asked → Outcome
plain_outcome limits s digest asked = unless_denied s (plain_denied limits s digest asked)
    (plain_served s asked, done s (unwrap_or (caller s digest) 0) asked)
