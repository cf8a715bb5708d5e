use Rattle.reg_service_requests.proofs.Words.{◌≡◌, ◌<◌, ◌+◌, ◌++◌, ◌∷◌, [], drop, length, arith, rules, sym, subst, drop_all}
use Rattle.reg_service_requests.proofs.Words.{ℕ, Option, None, Some, Ok, FindsKnown, Global, StoreFault, string_bytes}
use Rattle.std.specs.Prelude.{String}
use Rattle.reg_tables.specs.Calling.{Queries}
use Rattle.reg_service_requests.proofs.OwningIds.{texts_of}
use Rattle.reg_service_requests.proofs.OwningRuns.{AreFound, all_found, finding_fails, more_found, none_found, one_unknown, room_fails}
use Rattle.reg_service_requests.proofs.owning.find_all_known.Goals as goal

pub loop-login-init : goal.loop-login-init
loop-login-init g c =
    subst (λ ids. AreFound g.S.Store (texts_of c.args.logins.now) (texts_of c.args.logins.now) ids c.args.work.now c.args.work.now) (sym c.new-ids.ensures.items)
    (none_found g.S.Store c.args.logins.now c.args.work.now c.requires.goes_on c.requires.at_work)

pub find_known-requires : goal.find_known-requires
find_known-requires g c = c.loop-login.invariant.leaves.at_work

pub fail-requires : goal.fail-requires
fail-requires g c = c.in_ok-id.ensures.leaves.at_work

pub returns-in_err-id : goal.returns-in_err-id
returns-in_err-id g c =
    finding_fails g.S.Store c.args.logins.now c.args.work.now c.loop-login.login-index c.loop-login.ids.items c.loop-login.work c.find_known.new.work c.loop-login.invariant
    c.in_err-id.field-0.0 c.from_residual.result c.from_residual.ensures.0 c.in_err-id.ensures

pub returns-in_default : goal.returns-in_default
returns-in_default g c =
    let below : c.loop-login.login-index < length c.args.logins.now = omega arith in
    let one : Queries {T = Option ℕ} {E = StoreFault} g.S.Store c.loop-login.work c.find_known.new.work (Ok None) (FindsKnown (string_bytes c.login-item.result)) = rw (c.in_default.is, c.deref.ensures) at c.in_ok-id.ensures in
    one_unknown g.S.Store c.args.logins.now c.args.work.now c.loop-login.login-index c.login-item.result c.loop-login.ids.items c.loop-login.work c.find_known.new.work below c.loop-login.invariant (subst (λ (t : String Global). Queries {T = Option ℕ} {E = StoreFault} g.S.Store c.loop-login.work c.find_known.new.work (Ok None) (FindsKnown (string_bytes t))) c.login-item.is one)

pub returns-then-is_err : goal.returns-then-is_err
returns-then-is_err g c =
    room_fails g.S.Store c.args.logins.now c.args.work.now c.loop-login.login-index c.loop-login.ids.items c.loop-login.work c.find_known.new.work c.loop-login.invariant
    c.in_ok-id.field-0 c.fail.new.self c.fail.result c.fail.ensures.fails c.in_ok-id.ensures c.fail.ensures.leaves

pub loop-login-preserved : goal.loop-login-preserved
loop-login-preserved g c =
    let below : c.loop-login.login-index < length c.args.logins.now = omega arith in
    let pushed : c.push.new.self.items ≡ c.loop-login.ids.items ++ c.in-Some.id ∷ [] = search rules in
    let one : Queries {T = Option ℕ} {E = StoreFault} g.S.Store c.loop-login.work c.find_known.new.work (Ok (Some c.in-Some.id)) (FindsKnown (string_bytes c.login-item.result)) = rw (c.in-Some.is, c.deref.ensures) at c.in_ok-id.ensures in
    subst (λ ids. AreFound g.S.Store (texts_of c.args.logins.now) (texts_of (drop (c.loop-login.login-index + 1) c.args.logins.now)) ids c.args.work.now c.find_known.new.work) (sym pushed)
    (more_found g.S.Store c.args.logins.now c.args.work.now c.loop-login.login-index c.login-item.result c.loop-login.ids.items c.loop-login.work c.find_known.new.work below c.loop-login.invariant c.in-Some.id (subst (λ (t : String Global). Queries {T = Option ℕ} {E = StoreFault} g.S.Store c.loop-login.work c.find_known.new.work (Ok (Some c.in-Some.id)) (FindsKnown (string_bytes t))) c.login-item.is one))

pub returns : goal.returns
returns g c =
    all_found g.S.Store c.args.logins.now c.args.work.now c.loop-login.ids c.loop-login.work (drop c.loop-login.login-index c.args.logins.now) (drop_all c.loop-login.login-index c.args.logins.now c.loop-login-test.false) c.loop-login.invariant
