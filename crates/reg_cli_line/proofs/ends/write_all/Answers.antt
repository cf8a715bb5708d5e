use Rattle.std.proofs.Common.{arith, ◌∙◌}
use Rattle.reg_cli_line.proofs.EndFacts.{front_grown}
use Rattle.reg_cli_line.proofs.ends.write_all.Goals as goal

pub loop-turn-preserved : goal.loop-turn-preserved
loop-turn-preserved g c =
    let i = c.loop-turn.invariant in
    let e = c.in_ok-count.ensures in
    record {
      calls = omega (arith, i.calls, e.calls);
      failures = e.failures ∙ i.failures;
      front = rw c.split_at.ensures.back
          (front_grown _ _ _ c.args.bytes.now i.front.0 c.loop-turn.rest.now c.in_ok-count.count i.front.1 i.front.2 e.bytes);
    }
