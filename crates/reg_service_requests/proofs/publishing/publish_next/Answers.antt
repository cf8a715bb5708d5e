use Rattle.reg_service_requests.proofs.Words.{◌∙◌, publication_of, rows_seen, AddsNext, runs_asked, runs_refused}
use Rattle.reg_service_requests.proofs.Publications.{next_let, next_refused}
use Rattle.reg_service_steps.proofs.Running.{runs_changed, runs_unchanged}
use Rattle.reg_service_requests.proofs.publishing.publish_next.Goals as goal

pub returns-then-full : goal.returns-then-full
returns-then-full g c =
    runs_asked g.S.Store c.in_ok-full.full _ c.args.work.now c.is_full_of.new.work c.in_ok-full.ensures
    (λ full. next_refused c.args.limits.now (publication_of c.args.new.now) c.args.found.now _ (rw c.if-full.true at full))

pub returns : goal.returns
returns g c =
    runs_changed g.S.Store (λ db. AddsNext c.args.found.now.id c.version_of-version.result db (rows_seen g.S.Store c.add_version.new.self)) c.in_ok-full.full c.in_ok-add_version.field-0 _ c.args.work.now c.is_full_of.new.work c.add_version.new.self
    c.in_ok-full.ensures c.in_ok-add_version.ensures.leaves c.in_ok-add_version.ensures.told
    (λ full adds. next_let c.args.limits.now (publication_of c.args.new.now) c.args.found.now _ c.version_of-version.result c.in-Ok.body _ c.version_of-version.ensures (c.in-Ok.ensures.items_if_clones_equal (λ x y e. e) ∙ c.publish_body.ensures) (rw c.if-full.false at full) adds)

pub returns-in_default : goal.returns-in_default
returns-in_default g c =
    runs_refused g.S.Store c.in_ok-full.full c.fail.result c.args.work.now c.is_full_of.new.work c.fail.new.self c.fail.ensures.fails c.in_ok-full.ensures c.fail.ensures.leaves

pub returns-in_err-add_version : goal.returns-in_err-add_version
returns-in_err-add_version g c =
    runs_unchanged g.S.Store c.in_ok-full.full c.in_err-add_version.field-0.0 c.from_residual-in_err-add_version.result c.args.work.now c.is_full_of.new.work c.add_version.new.self
    c.from_residual-in_err-add_version.ensures.0 c.in_ok-full.ensures c.in_err-add_version.ensures.leaves
