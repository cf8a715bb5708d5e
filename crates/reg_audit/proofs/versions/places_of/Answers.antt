use Rattle.reg_audit.proofs.Sets.{place_step}
use Rattle.reg_audit.proofs.versions.places_of.Goals as goal

pub loop-index-preserved : goal.loop-index-preserved
loop-index-preserved c id = place_step (λ c. c.id) c.args.crates.now c.loop-index.index c.index-crates-index.result id _ _ c.loop-index-test.true c.index-crates-index.is (c.in_ok-add.ensures id) (c.loop-index.invariant id)
