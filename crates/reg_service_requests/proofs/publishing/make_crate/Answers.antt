use Rattle.reg_service_requests.proofs.Words.{◌∙◌, publication_of, rows_seen, AddsFirst, runs_failed, runs_stopped}
use Rattle.reg_service_requests.proofs.Publications.{new_crate}
use Rattle.reg_service_steps.proofs.Running.{runs_alone}
use Rattle.reg_service_requests.proofs.publishing.make_crate.Goals as goal

pub returns : goal.returns
returns g c =
    runs_alone g.S.Store {X = AddsFirst c.args.new.now.name c.args.owner c.version_of-version.result (rows_seen g.S.Store c.args.work.now) (rows_seen g.S.Store c.add_crate.new.self) c.in_ok-add_crate.field-0} c.in_ok-add_crate.field-0 _ c.args.work.now c.add_crate.new.self
    c.in_ok-add_crate.ensures.leaves c.in_ok-add_crate.ensures.told
    (λ adds. new_crate (publication_of c.args.new.now) c.args.owner c.version_of-version.result c.in_ok-add_crate.field-0 c.in-Ok.body _ _ c.version_of-version.ensures (c.in-Ok.ensures.items_if_clones_equal (λ x y e. e) ∙ c.publish_body.ensures) adds)

pub returns-in_default : goal.returns-in_default
returns-in_default g c = runs_stopped g.S.Store c.fail.result c.args.work.now c.fail.new.self c.fail.ensures.fails c.fail.ensures.leaves

pub returns-in_err-add_crate : goal.returns-in_err-add_crate
returns-in_err-add_crate g c = runs_failed g.S.Store _ c.from_residual.result c.args.work.now c.add_crate.new.self c.from_residual.ensures.0 c.in_err-add_crate.ensures.leaves
