use Rattle.std.proofs.Common.{arith}
use Rattle.reg_audit.proofs.SameIds.{keys_agree, keys_differ}
use Rattle.reg_audit.proofs.summaries.are_of.Goals as goal

pub returns-then-summary-crates : goal.returns-then-summary-crates
returns-then-summary-crates c =
    let low = c.loop-index-test.true in
    keys_differ (λ s. s.crate_id) (λ c. c.id) c.args.summaries.now c.args.crates.now c.loop-index.index _ c.index-crates-index.result low (omega arith) c.if-summary-crates.true

pub returns : goal.returns
returns c = keys_agree (λ s. s.crate_id) (λ c. c.id) c.args.summaries.now c.args.crates.now c.loop-index.index (omega arith) (omega arith) c.loop-index.invariant
