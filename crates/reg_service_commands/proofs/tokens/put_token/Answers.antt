use Rattle.reg_service_commands.proofs.Words.{rows_seen, AddsToken, runs_asked}
use Rattle.reg_service_commands.proofs.Adding.{token_kept, token_put}
use Rattle.reg_service_steps.proofs.Running.{runs_changed}
use Rattle.reg_service_commands.proofs.tokens.put_token.Goals as goal

pub returns-in-Some : goal.returns-in-Some
returns-in-Some g c =
    runs_asked g.S.Store c.in_ok-refusal.field-0 _ c.args.work.now c.refuses_token.new.work c.in_ok-refusal.ensures
    (λ why. token_kept c.args.limits.now c.args.digest.now c.args.account c.args.endpoints c.args.patterns.now c.in-Some.refusal _ (rw c.in-Some.is at why))

pub returns : goal.returns
returns g c =
    runs_changed g.S.Store (λ db. AddsToken c.args.digest.now c.args.account c.args.endpoints c.args.patterns.now db (rows_seen g.S.Store c.add_token.new.self) c.in_ok-id.id) c.in_ok-refusal.field-0 c.in_ok-id.id _ c.args.work.now c.refuses_token.new.work c.add_token.new.self
    c.in_ok-refusal.ensures c.in_ok-id.ensures.leaves c.in_ok-id.ensures.told
    (λ why adds. token_put c.args.limits.now c.args.digest.now c.args.account c.args.endpoints c.args.patterns.now c.in_ok-id.id _ _ (rw c.in_default.is at why) adds)
