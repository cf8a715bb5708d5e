use Rattle.reg_service_commands.proofs.Words.{◌≡◌, [], ◌∷◌, Bool, true, false, map, refl, codes, TokenAdd, with_commas, FindsAccount}
use Rattle.reg_service_commands.proofs.Words.{runs_asked, runs_whole}
use Rattle.std.specs.Prelude.{◌&&◌}
use Rattle.reg_model.specs.declared.rule.AdminRefusal.TheVariants as refusal
use Rattle.reg_service_commands.proofs.Adding.{bad_scope, no_account, token_added}
use Rattle.reg_service_commands.proofs.Ordered.{refusal_told, token_words, told_so}
use Rattle.reg_service_commands.proofs.tokens.add_token.Goals as goal

always : (b : Bool) → b ≡ (b && true)
always true = refl
always false = refl

pub returns-in_default : goal.returns-in_default
returns-in_default g c =
    let words = map (λ w. w.now) c.args.words.now in
    let texts = map (λ t. t.now) c.args.texts.now in
    runs_asked g.S.Store {P = FindsAccount c.args.login.now} c.in_ok-account.field-0 _ c.args.work.now c.account_by_login.new.self c.in_ok-account.ensures
    (λ found. refusal_told c.args.traced c.args.limits.now (TokenAdd c.args.login.now words texts c.args.digest.now) _ _ c.refused.result refusal.G3 c.refused.ensures.answer c.refused.ensures.line
    (no_account c.args.limits.now c.args.login.now words texts c.args.digest.now _ (rw c.in_default.is at found)))

pub returns-in-Ok-Err : goal.returns-in-Ok-Err
returns-in-Ok-Err g c =
    let words = map (λ w. w.now) c.args.words.now in
    let texts = map (λ t. t.now) c.args.texts.now in
    let it = c.refused-in-Ok-Err in
    runs_asked g.S.Store {P = FindsAccount c.args.login.now} c.in_ok-account.field-0 _ c.args.work.now c.account_by_login.new.self c.in_ok-account.ensures
    (λ found. refusal_told c.args.traced c.args.limits.now (TokenAdd c.args.login.now words texts c.args.digest.now) _ _ it.result c.in-Ok-Err.refusal it.ensures.answer it.ensures.line
    (bad_scope c.args.limits.now c.args.login.now words texts c.args.digest.now c.in-Some.account c.in-Ok-Err.refusal _ (rw c.in-Some.is at found) (rw c.in-Ok-Err.field-0-is at c.in-Ok-Err.ensures)))

pub returns : goal.returns
returns g c =
    let words = map (λ w. w.now) c.args.words.now in
    let texts = map (λ t. t.now) c.args.texts.now in
    let login = c.args.login.now in
    let limits = c.args.limits.now in
    let traced = c.args.traced in
    let patterns = c.in-Ok-Ok.patterns in
    let scope = rw c.in-Ok-Ok.field-0-is at c.in-Ok-Ok.ensures in
    runs_whole g.S.Store {P = FindsAccount login} c.in_ok-account.field-0 c.in_ok-answer.answer c.in_ok-line.line _ c.args.work.now c.account_by_login.new.self c.put_token.new.work c.tell_token.new.work
    c.in_ok-account.ensures c.in_ok-answer.ensures c.in_ok-line.ensures
    (λ found puts told. told_so traced limits (TokenAdd login words texts c.args.digest.now) _ _ (record { answer = c.in_ok-answer.answer; line = c.in_ok-line.line }) true traced
    (codes "token-add" ∷ login ∷ codes "--endpoints" ∷ with_commas words ∷ codes "--patterns" ∷ with_commas patterns.items ∷ [])
    (token_added limits login words texts c.args.digest.now c.in-Some.account patterns _ _ c.in_ok-answer.answer (rw c.in-Some.is at found) scope (rw (c.endpoints_named-endpoints.ensures, c.deref.ensures.value) at puts))
    (token_words limits login words texts patterns.items c.args.digest.now _ scope.2) (always traced) (rw c.deref-2.ensures.value at told))
