use Rattle.reg_service_commands.proofs.Words.{◌≡◌, ◌∷◌, [], Bool, true, false, List, None, Some, cond, map, not, refl, sym, ap, ◌∙◌}
use Rattle.reg_service_commands.proofs.Words.{list_all, is_pattern, Text, first_ground}
use Rattle.reg_model.specs.declared.rule.AdminRefusal.TheVariants as refusal
use Rattle.reg_service_commands.proofs.Ordered.{given_are, none_given}
use Rattle.reg_service_commands.proofs.tokens.read_scopes.Goals as goal

is_given : (b : Bool) (all given : List Text) → Some given ≡ cond b (Some all) None → b ≡ true
is_given true all given e = refl
is_given false all given e = absurd cc

pub returns-then-not-name_endpoints : goal.returns-then-not-name_endpoints
returns-then-not-name_endpoints c =
    ap (λ b. first_ground ((refusal.G9, b) ∷ (refusal.G4, not (list_all is_pattern (map (λ t. t.now) c.args.texts.now))) ∷ []))
    (sym c.name_endpoints.ensures ∙ ap not c.if-not-name_endpoints.true)

pub returns-in-Some : goal.returns-in-Some
returns-in-Some c =
    let is = rw c.in-Some.is at c.in_ok-patterns.ensures in
    let texts = map (λ t. t.now) c.args.texts.now in
    (sym c.name_endpoints.ensures ∙ ap not c.if-not-name_endpoints.false, is_given (list_all is_pattern texts) _ c.in-Some.patterns.items is, given_are texts c.in-Some.patterns is)

pub returns-in-None : goal.returns-in-None
returns-in-None c =
    ap (λ b. first_ground ((refusal.G9, b) ∷ (refusal.G4, not (list_all is_pattern (map (λ t. t.now) c.args.texts.now))) ∷ []))
    (sym c.name_endpoints.ensures ∙ ap not c.if-not-name_endpoints.false)
    ∙ ap (λ b. first_ground ((refusal.G4, not b) ∷ [])) (none_given (map (λ t. t.now) c.args.texts.now) (rw c.in-None.is at c.in_ok-patterns.ensures))
