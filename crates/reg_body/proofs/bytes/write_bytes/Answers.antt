use Rattle.std.proofs.Common.{arith, ap, length, length-append, sym, ◌≢◌, ◌∙◌}
use Rattle.std.proofs.lemmas.Bool.{eqb-false}
use Rattle.reg_body.proofs.Taken.{took_more}
use Rattle.reg_body.proofs.bytes.write_bytes.Goals as goal

pub rest-preserved : goal.rest-preserved
rest-preserved g c =
    let i = c.rest.invariant in
    let e = c.in-Ok.ensures in
    let more : length c.rest.rest.now ≢ 0 = eqb-false (length c.rest.rest.now) 0 (sym c.is_empty.ensures ∙ c.rest-test.true) in
    record {
      used = omega arith;
      calls = omega (arith, i.calls, e.calls);
      failures = e.failures ∙ i.failures;
      sent = λ h. omega (arith, more, ap (λ l. length l) i.front.1, length-append i.front.0 c.rest.rest.now);
      begun = λ none. absurd (omega arith);
      front = rw c.split_at.ensures.back
          (took_more _ _ _ c.args.bytes.now i.front.0 c.rest.rest.now c.in-Ok.n i.front.1 i.front.2
          e.bytes);
    }
