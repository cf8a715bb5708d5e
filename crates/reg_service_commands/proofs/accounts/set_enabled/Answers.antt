use Rattle.reg_service_commands.proofs.Words.{[], ◌∷◌, FindsAccount, enabling, enabled_word, runs_asked, runs_told}
use Rattle.reg_model.specs.declared.rule.AdminRefusal.TheVariants as refusal
use Rattle.reg_service_commands.proofs.Commands.{is_enabled_so, none_enabled}
use Rattle.reg_service_commands.proofs.Ordered.{differed, done_told, enabled_words, refusal_told}
use Rattle.reg_service_commands.proofs.accounts.set_enabled.Goals as goal

pub returns-in_default : goal.returns-in_default
returns-in_default g c =
    runs_asked g.S.Store {P = FindsAccount c.args.login.now} c.in_ok-account.field-0 _ c.args.work.now c.account_by_login.new.self c.in_ok-account.ensures
    (λ found limits. refusal_told c.args.traced limits (enabling c.args.enabled c.args.login.now) _ _ c.refused.result refusal.G3 c.refused.ensures.answer c.refused.ensures.line
    (none_enabled limits c.args.enabled c.args.login.now _ (rw c.in_default.is at found)))

pub returns : goal.returns
returns g c =
    let enabled = c.args.enabled in
    let login = c.args.login.now in
    let changed = c.differs.result in
    runs_told g.S.Store {P = FindsAccount login} c.in_ok-account.field-0 c.in_ok-set_enabled.field-0 c.done_of.result c.args.work.now c.account_by_login.new.self c.set_enabled.new.self c.done_of.new.work
    c.in_ok-account.ensures c.in_ok-set_enabled.ensures c.done_of.ensures
    (λ it found sets done limits. done_told c.args.traced limits (enabling enabled login) _ _ it changed c.is_told-told.result (enabled_word enabled ∷ login ∷ []) (rw c.enabled_verb.ensures at done)
    (is_enabled_so limits enabled login c.in-Some.account _ _ (rw c.in-Some.is at found) sets)
    (enabled_words limits enabled changed login c.in-Some.account _ (rw c.in-Some.is at found) (differed c.in-Some.account.enabled enabled changed c.differs.ensures)) c.is_told-told.ensures)
