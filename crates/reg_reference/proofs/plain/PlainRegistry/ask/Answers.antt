use Rattle.reg_reference.proofs.Words.{refl, sym, ◌∙◌, ap, option_map, Limits, Registry, judged, asked_of, limits_of, registry_of}
use Rattle.reg_reference.proofs.Joined.{no_room_step, no_token_step, with_token, denied_step, allowed_step, none_of, some_of}
use Rattle.reg_reference.proofs.plain.PlainRegistry.ask.Goals as goal

pub returns-in_default-clause-step : goal.returns-in_default-clause-step
returns-in_default-clause-step c =
    no_token_step (limits_of c.args.self.now) (registry_of c.args.self.now) _ (asked_of c.args.asked.now) (ap (option_map (λ d. d.now)) c.in_default.is)

pub returns-in-Ok-clause-step : goal.returns-in-Ok-clause-step
returns-in-Ok-clause-step c =
    let limits : Limits = limits_of c.args.self.now in
    let s : Registry = registry_of c.args.self.now in
    let passes = sym (ap (λ a. judged limits s c.in-Some.digest.now a) c.action_of.ensures) ∙ none_of _ (sym c.in-Ok-Allowed.field-0-is ∙ c.in-Ok-Allowed.ensures) in
    with_token limits s (registry_of c.serve.new.self) _ c.in-Some.digest.now (asked_of c.args.asked.now) _ (ap (option_map (λ d. d.now)) c.in-Some.is)
    (allowed_step limits s _ c.in-Some.digest.now (asked_of c.args.asked.now) _ passes c.in-Ok.ensures.answer c.in-Ok.ensures.state)

pub returns-in-Ok-Denied-clause-step : goal.returns-in-Ok-Denied-clause-step
returns-in-Ok-Denied-clause-step c =
    let limits : Limits = limits_of c.args.self.now in
    let s : Registry = registry_of c.args.self.now in
    let breaks = sym (ap (λ a. judged limits s c.in-Some.digest.now a) c.action_of.ensures) ∙ some_of _ c.in-Ok-Denied.rule (sym c.in-Ok-Denied.field-0-is ∙ c.in-Ok-Denied.ensures) in
    with_token limits s s _ c.in-Some.digest.now (asked_of c.args.asked.now) _ (ap (option_map (λ d. d.now)) c.in-Some.is)
    (denied_step limits s s c.in-Some.digest.now (asked_of c.args.asked.now) _ c.in-Ok-Denied.rule breaks refl refl)

pub returns-in-Err-serve-clause-step : goal.returns-in-Err-serve-clause-step
returns-in-Err-serve-clause-step c = no_room_step (limits_of c.args.self.now) (registry_of c.args.self.now) _ _ (asked_of c.args.asked.now) c.in-Err-serve.ensures.err

pub returns-in-Err-clause-step : goal.returns-in-Err-clause-step
returns-in-Err-clause-step c = no_room_step (limits_of c.args.self.now) (registry_of c.args.self.now) _ _ (asked_of c.args.asked.now) refl
