use Rattle.reg_http_read.proofs.Common.{Err, ap, arith, ◌≤◌, length, ◌==◌, inl, refl, count_by}
use Rattle.reg_http_read.proofs.Cuts.{never_exceeds}
use Rattle.reg_http_read.proofs.Judged.{judgement_of_request}
use Rattle.reg_http_read.proofs.front.judge_front.Goals as goal

pub returns-in-Ok-Complete : goal.returns-in-Ok-Complete
returns-in-Ok-Complete c =
    let found = rw c.in-Ok-Complete.field-0-is at c.in-Ok-Complete.ensures in
    judgement_of_request c.args.limits.now c.args.front.now c.in-Ok-Complete.len _ found.complete.0 _ _ _ c.judge_head.result
    found.complete.1 c.unwrap.ensures c.unwrap-in-Ok-Complete.ensures c.unwrap-in-Ok-Complete-2.ensures c.judge_head.ensures

pub returns : goal.returns
returns c =
    let e = c.in-Err.ensures in
    let room : count_by (λ b. b == 10) c.args.front.now ≤ length c.new-request.result.headers.now =
    omega (arith, ap length c.new-request.ensures.room, c.as_mut_slice.ensures.len, c.in_ok-room.ensures.len, c.line_feeds.ensures) in
    inl (record {
      never = e.invalid (λ is. never_exceeds _ _ room (e.too_many (ap Err is)));
      rule_is = refl;
      told = refl;
    })
