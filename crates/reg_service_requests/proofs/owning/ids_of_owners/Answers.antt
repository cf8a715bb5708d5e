use Rattle.reg_service_requests.proofs.Words.{◌+◌, None, Some, drop, sym, subst, drop_all, has_login, entries_of, id_among}
use Rattle.reg_service_requests.proofs.Words.{Global, string_bytes}
use Rattle.std.specs.Prelude.{String}
use Rattle.reg_service_requests.specs.Owning.{IsIdOf}
use Rattle.reg_service_requests.proofs.OwningIds.{IsSoFar, owner_found, so_far_all, so_far_ends, so_far_more, so_far_none, texts_of}
use Rattle.reg_service_requests.proofs.owning.ids_of_owners.Goals as goal

pub loop-login-init : goal.loop-login-init
loop-login-init c =
    let es = entries_of c.args.owners.now in
    subst (λ ids. IsSoFar (has_login es) (id_among es) (texts_of c.args.logins.now) (texts_of c.args.logins.now) ids) (sym c.new-ids.ensures.items) (so_far_none (has_login es) (id_among es) (texts_of c.args.logins.now))

pub returns-in-None : goal.returns-in-None
returns-in-None c =
    let es = entries_of c.args.owners.now in
    let found : IsIdOf (has_login es) (id_among es) (string_bytes c.login-item.result) None = rw c.deref.ensures at (owner_found c.args.owners.now _ None c.in-None.ensures) in
    so_far_ends (has_login es) (id_among es) c.args.logins.now c.loop-login.login-index c.login-item.result c.loop-login-test.true c.loop-login.ids.items c.loop-login.invariant
    (subst (λ (t : String Global). IsIdOf (has_login es) (id_among es) (string_bytes t) None) c.login-item.is found)

pub loop-login-preserved : goal.loop-login-preserved
loop-login-preserved c =
    let es = entries_of c.args.owners.now in
    let found : IsIdOf (has_login es) (id_among es) (string_bytes c.login-item.result) (Some c.in-Some.id) = rw c.deref.ensures at (owner_found c.args.owners.now _ (Some c.in-Some.id) c.in-Some.ensures) in
    subst (λ ids. IsSoFar (has_login es) (id_among es) (texts_of c.args.logins.now) (texts_of (drop (c.loop-login.login-index + 1) c.args.logins.now)) ids) (sym c.in_ok-push-in-Some.ensures.items)
    (so_far_more (has_login es) (id_among es) c.args.logins.now c.loop-login.login-index c.login-item.result c.loop-login-test.true c.loop-login.ids.items c.loop-login.invariant c.in-Some.id
    (subst (λ (t : String Global). IsIdOf (has_login es) (id_among es) (string_bytes t) (Some c.in-Some.id)) c.login-item.is found))

pub returns : goal.returns
returns c =
    let es = entries_of c.args.owners.now in
    so_far_all (has_login es) (id_among es) (texts_of c.args.logins.now) c.loop-login.ids.items
    (subst (λ rest. IsSoFar (has_login es) (id_among es) (texts_of c.args.logins.now) (texts_of rest) c.loop-login.ids.items) (drop_all c.loop-login.login-index c.args.logins.now c.loop-login-test.false) c.loop-login.invariant)
