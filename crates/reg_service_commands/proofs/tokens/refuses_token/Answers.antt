use Rattle.reg_service_commands.proofs.Words.{FindsToken, sym, ap, ◌∙◌, ◌∷◌, [], asks_both, asks_made, first_ground}
use Rattle.reg_model.specs.declared.rule.AdminRefusal.TheVariants as refusal
use Rattle.reg_service_commands.proofs.Adding.{is_full_so, is_known_so}
use Rattle.reg_service_commands.proofs.tokens.refuses_token.Goals as goal

pub returns-then-full : goal.returns-then-full
returns-then-full g c =
    asks_made g.S.Store c.in_ok-full.full _ c.args.work.now c.is_full.new.work
    (λ h. is_full_so c.args.limits.now c.args.digest.now c.args.patterns.now _ (rw c.if-full.true at h)) c.in_ok-full.ensures

pub returns : goal.returns
returns g c =
    asks_made g.S.Store (c.in_ok-full.full, c.in_ok-found.found) _ c.args.work.now c.token_rows.new.self
    (λ h ids s holds. is_known_so c.args.limits.now c.args.digest.now c.args.patterns.now _ c.in_ok-found.found (rw c.if-full.false at h.0) h.1 ids s holds
    ∙ ap (λ b. first_ground ((refusal.G5, b) ∷ [])) (sym c.is_some.ensures) ∙ sym c.refused_if.ensures)
    (asks_both g.S.Store {Q = FindsToken c.args.digest.now} c.in_ok-full.full c.in_ok-found.found c.args.work.now c.is_full.new.work c.token_rows.new.self c.in_ok-full.ensures
    c.in_ok-found.ensures)
