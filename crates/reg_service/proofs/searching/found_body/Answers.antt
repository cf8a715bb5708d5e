use Rattle.reg_service.proofs.Words.{arith, ap, ◌∙◌, if_ok}
use Rattle.reg_api_replies.specs.Bodies.{found_body}
use Rattle.reg_api_replies.specs.Entries.{found_of}
use Rattle.reg_service.proofs.Histories.{no_told}
use Rattle.reg_service.proofs.Seeking.{all_pushed, push_one}
use Rattle.reg_service.proofs.searching.found_body.Goals as goal

pub loop-hit-init : goal.loop-hit-init
loop-hit-init c = c.new-body.ensures

pub loop-hit-preserved : goal.loop-hit-preserved
loop-hit-preserved c =
    push_one c.args.found.now.crates.items c.deref-hit-items.result.now c.loop-hit.hit-index c.hit-item.result c.loop-hit.body c.push_hit.new.body c.deref-hit-items.ensures.value
    c.loop-hit-test.true c.hit-item.is c.loop-hit.invariant c.in_ok-push_hit.ensures

pub loop-hit-smaller : goal.loop-hit-smaller
loop-hit-smaller c = omega (arith, c.loop-hit-test.true)

pub returns-in_err-push_hit : goal.returns-in_err-push_hit
returns-in_err-push_hit c = no_told _ c.from_residual.result c.from_residual.ensures.0

pub returns : goal.returns
returns c =
    let all = all_pushed c.args.found.now.crates.items c.deref-hit-items.result.now c.loop-hit.hit-index c.loop-hit.body c.deref-hit-items.ensures.value c.loop-hit-test.false c.loop-hit.invariant in
    if_ok c.finish.result (λ v is. is ∙ ap (λ hits. found_body (found_of c.args.found.now.total hits)) all) c.finish.ensures
