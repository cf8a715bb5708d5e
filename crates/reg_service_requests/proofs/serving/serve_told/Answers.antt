use Rattle.reg_service_requests.proofs.Words.{ap, option_map, action_of, asked_of, IsPolicy, rows_seen, runs_after, runs_asked, runs_failed}
use Rattle.reg_service_requests.proofs.Words.{runs_nothing}
use Rattle.reg_access.specs.Admitted.{TellsPrincipal, decision_in}
use Rattle.reg_service_requests.proofs.Deciding.{denied_told, is_let, no_token_told, with_token}
use Rattle.reg_service_requests.proofs.serving.serve_told.Goals as goal

pub returns-in_default : goal.returns-in_default
returns-in_default g c =
    runs_nothing g.S.Store _ c.args.work.now c.requires.goes_on c.requires.at_work
    (no_token_told c.args.traced c.args.limits.now _ (asked_of c.args.asked.now) _ _ c.denied.ensures.served c.denied.ensures.line (ap (option_map (λ d. d.now)) c.in_default.is))

pub returns-in-Denied : goal.returns-in-Denied
returns-in-Denied g c =
    let asked = asked_of c.args.asked.now in
    runs_asked g.S.Store {P = λ db it. IsPolicy c.in-Some.digest.now (action_of asked) db (decision_in it)} c.in_ok-rule.field-0 _ c.args.work.now c.admit.new.work
    (record { told = rw c.action_of.ensures at c.in_ok-rule.ensures.policy; same = c.in_ok-rule.ensures.same; leaves = c.in_ok-rule.ensures.leaves })
    (λ policy. denied_told c.access_law.ensures c.args.traced c.args.limits.now _ c.in-Some.digest.now asked (rows_seen g.S.Store c.args.work.now) c.in-Denied.rule _ c.denied-in-Denied.ensures.served c.denied-in-Denied.ensures.line (ap (option_map (λ d. d.now)) c.in-Some.is) (rw c.in-Denied.is at policy))

pub returns-in-Allowed : goal.returns-in-Allowed
returns-in-Allowed g c =
    let asked = asked_of c.args.asked.now in
    let digest = c.in-Some.digest.now in
    runs_after g.S.Store {P = λ db it. IsPolicy digest (action_of asked) db (decision_in it) × TellsPrincipal digest (action_of asked) db it} c.in_ok-rule.field-0 c.grant.result c.args.work.now c.admit.new.work c.grant.new.work
    (record { told = λ clean. ((rw c.action_of.ensures at c.in_ok-rule.ensures.policy) clean, (rw c.action_of.ensures at c.in_ok-rule.ensures.found) clean); same = c.in_ok-rule.ensures.same; leaves = c.in_ok-rule.ensures.leaves }) c.grant.ensures
    (λ it told granted. with_token c.args.traced c.args.limits.now _ digest asked (rows_seen g.S.Store c.args.work.now) (rows_seen g.S.Store c.grant.new.work) it (ap (option_map (λ d. d.now)) c.in-Some.is)
    (granted digest (is_let digest (action_of asked) _ (rw c.in-Allowed.is at told.0)) (rw c.in-Allowed.is at told.1)))

pub returns-in_err-rule : goal.returns-in_err-rule
returns-in_err-rule g c = runs_failed g.S.Store _ c.from_residual.result c.args.work.now c.admit.new.work c.from_residual.ensures.0 c.in_err-rule.ensures.leaves
