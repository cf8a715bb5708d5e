use Rattle.reg_access.proofs.Words.{◌≡◌, refl, sym, ap, ◌∙◌, action_of, decision_of}
use Rattle.reg_model.specs.Rules.{access}
use Rattle.reg_access.proofs.Admitting.{has_its_crate, has_its_version, none_of}
use Rattle.reg_access.proofs.admission.admission_of.Goals as goal

pub returns-in-Denied : goal.returns-in-Denied
returns-in-Denied c = record { decided = sym c.in-Denied.is ∙ c.first_broken.ensures.uncounted c.facts_of.ensures.uncounted ∙ ap (λ x. decision_of (access x (action_of c.args.action.now))) c.facts_of.ensures.access; handed = tt; there = tt; named = tt }

pub returns-in-Allowed : goal.returns-in-Allowed
returns-in-Allowed c =
    let decided = sym c.in-Allowed.is ∙ c.first_broken.ensures.uncounted c.facts_of.ensures.uncounted ∙ ap (λ x. decision_of (access x (action_of c.args.action.now))) c.facts_of.ensures.access in
    record {
      decided = decided;
      handed = record { token = refl; login = refl; account = refl; found = c.crate_of_row.ensures; version = refl };
      named = has_its_version (action_of c.args.action.now) c.args.token c.args.found (none_of _ decided);
      there = has_its_crate (action_of c.args.action.now) c.args.token c.args.found _ (none_of _ decided) c.crate_of_row.ensures;
    }
