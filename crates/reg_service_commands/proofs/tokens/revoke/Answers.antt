use Rattle.reg_service_commands.proofs.Words.{[], ◌∷◌, rules, decimal, codes, TokenRevoke, TellsLive, IsDoneTold, runs_asked, runs_told}
use Rattle.reg_model.specs.declared.rule.AdminRefusal.TheVariants as refusal
use Rattle.reg_service_commands.proofs.Adding.{no_token, revoked_now}
use Rattle.reg_service_commands.proofs.Ordered.{done_told, live_there, refusal_told, revoke_words}
use Rattle.reg_service_commands.proofs.tokens.revoke.Goals as goal

pub returns-in_default : goal.returns-in_default
returns-in_default g c =
    runs_asked g.S.Store {P = TellsLive c.args.id} c.in_ok-live.field-0 _ c.args.work.now c.is_live.new.self c.in_ok-live.ensures
    (λ tells limits. refusal_told c.args.traced limits (TokenRevoke c.args.id) _ _ c.refused.result refusal.G6 c.refused.ensures.answer c.refused.ensures.line
    (no_token limits c.args.id _ (live_there c.args.id _ _ (rw c.in_default.is at tells))))

pub returns : goal.returns
returns g c =
    let id = c.args.id in
    let live = c.in-Some.live in
    runs_told g.S.Store {P = TellsLive id} c.in_ok-live.field-0 c.in_ok-revoke.field-0 c.done_of.result c.args.work.now c.is_live.new.self c.revoke.new.self c.done_of.new.work
    c.in_ok-live.ensures c.in_ok-revoke.ensures c.done_of.ensures
    (λ it tells ends done limits.
    let was = rw c.in-Some.is at tells in
    let line : IsDoneTold c.is_told.result (codes "-" ∷ codes "admin" ∷ codes "token-revoke" ∷ decimal id ∷ []) it = search (rules, done) in
    done_told c.args.traced limits (TokenRevoke id) _ _ it live c.is_told.result (codes "token-revoke" ∷ decimal id ∷ []) line
    (revoked_now limits id _ _ (live_there id _ _ was) ends) (revoke_words limits id live _ was) c.is_told.ensures)
