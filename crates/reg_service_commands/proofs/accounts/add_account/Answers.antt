use Rattle.reg_service_commands.proofs.Words.{◌≡◌, ◌∷◌, Bool, true, false, Ok, ap, refl, not, sym, ◌∙◌, option_map, codes, UserAdd}
use Rattle.reg_service_commands.proofs.Words.{name_words, runs_asked, runs_nothing, runs_whole}
use Rattle.std.specs.Prelude.{◌&&◌}
use Rattle.reg_model.specs.declared.rule.AdminRefusal.TheVariants as refusal
use Rattle.reg_policy.specs.declared.event.AdminReply.TheVariants.{Done}
use Rattle.reg_service_commands.proofs.Adding.{account_added, account_refused, bad_account}
use Rattle.reg_service_commands.proofs.Ordered.{refusal_told, told_so, user_words}
use Rattle.reg_service_commands.proofs.accounts.add_account.Goals as goal

always : (b : Bool) → b ≡ (b && true)
always true = refl
always false = refl

pub returns-then-not-is_account : goal.returns-then-not-is_account
returns-then-not-is_account g c =
    let name = option_map (λ n. n.now) c.args.name in
    runs_nothing g.S.Store _ c.args.work.now c.requires.goes_on c.requires.at_work
    (refusal_told c.args.traced c.args.limits.now (UserAdd c.args.login.now name) _ _ c.refused.result refusal.G1 c.refused.ensures.answer c.refused.ensures.line
    (bad_account c.args.limits.now c.args.login.now name _ (ap not (sym c.is_account.ensures ∙ c.if-not-is_account.true))))

pub returns-in-Some : goal.returns-in-Some
returns-in-Some g c =
    let name = option_map (λ n. n.now) c.args.name in
    let it = c.refused-in-Some in
    runs_asked g.S.Store c.in_ok-refusal.field-0 _ c.args.work.now c.refuses_account.new.work c.in_ok-refusal.ensures
    (λ why. refusal_told c.args.traced c.args.limits.now (UserAdd c.args.login.now name) _ _ it.result c.in-Some.refusal it.ensures.answer it.ensures.line
    (account_refused c.args.limits.now c.args.login.now name c.in-Some.refusal _ (ap not (sym c.is_account.ensures ∙ c.if-not-is_account.false)) (rw c.in-Some.is at why)))

pub returns : goal.returns
returns g c =
    let name = option_map (λ n. n.now) c.args.name in
    let login = c.args.login.now in
    let limits = c.args.limits.now in
    let traced = c.args.traced in
    runs_whole g.S.Store c.in_ok-refusal.field-0 c.in_ok-add_account.field-0 c.in_ok-line.line _ c.args.work.now c.refuses_account.new.work c.add_account.new.self c.tell_account.new.work
    c.in_ok-refusal.ensures c.in_ok-add_account.ensures c.in_ok-line.ensures
    (λ why adds told. told_so traced limits (UserAdd login name) _ _ (record { answer = Ok Done; line = c.in_ok-line.line }) true traced (codes "user-add" ∷ login ∷ name_words name)
    (account_added limits login name c.in_ok-add_account.field-0 _ _ (ap not (sym c.is_account.ensures ∙ c.if-not-is_account.false)) (rw c.in_default.is at why) adds)
    (user_words limits login name _) (always traced) told)
