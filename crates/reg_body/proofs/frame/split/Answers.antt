use Rattle.std.proofs.Common.{arith, Err, Ok, ◌<◌, length}
use Rattle.reg_body.specs.declared.frame.BodyFault.TheVariants.{Short, Trailing, TooLong}
use Rattle.reg_body.specs.Frames.{IsWithin}
use Rattle.reg_body.proofs.FrameFacts.{cut_first, cut_second, trailed, whole}
use Rattle.reg_body.proofs.Verdicts.{verdict}
use Rattle.reg_body.proofs.frame.split.Goals as goal
use Rattle.reg_body.proofs.frame.split.Goals.{then-json-limits-via-then-json-limits, then-json-limits-via-else-json-limits+then-archive-limits}

pub returns-in_default : goal.returns-in_default
returns-in_default c =
    let v = verdict c.args.limits.now c.args.bytes.now (Err Short) (cut_first _ c.in_default.ensures) in
    record { parts = v.0; short = v.1; trailing = v.2; too_long = v.3 }

pub returns-in_default-take_part : goal.returns-in_default-take_part
returns-in_default-take_part c =
    let first = c.in-Some.ensures in
    let v = verdict c.args.limits.now c.args.bytes.now (Err Short) (cut_second _ _ _ first.0 first.1 c.in_default-take_part.ensures) in
    record { parts = v.0; short = v.1; trailing = v.2; too_long = v.3 }

pub returns-then-is_trailed : goal.returns-then-is_trailed
returns-then-is_trailed c =
    let first = c.in-Some.ensures in
    let second = c.in-Some-take_part.ensures in
    let more : 0 < length c.in-Some-take_part.rest.now = grind arith in
    let v = verdict c.args.limits.now c.args.bytes.now (Err Trailing) (trailed _ _ _ _ _ first.0 second.0 first.1 second.1 more) in
    record { parts = v.0; short = v.1; trailing = v.2; too_long = v.3 }

pub returns-then-json-limits : goal.returns-then-json-limits
returns-then-json-limits c =
    let first = c.in-Some.ensures in
    let second = c.in-Some-take_part.ensures in
    let frame = whole _ _ _ _ _ first.0 second.0 first.1 second.1 (grind arith) in
    let long : IsWithin c.args.limits.now c.in-Some.json.now c.in-Some-take_part.archive.now → ⊥ = λ within.
    elim c.then-json-limits.branch [
      | then-json-limits-via-then-json-limits w ↦ omega (arith, within.0)
      | then-json-limits-via-else-json-limits+then-archive-limits w ↦ omega (arith, within.1)
    ] in
    let v = verdict c.args.limits.now c.args.bytes.now (Err TooLong) (_, _, frame, long) in
    record { parts = v.0; short = v.1; trailing = v.2; too_long = v.3 }

pub returns : goal.returns
returns c =
    let first = c.in-Some.ensures in
    let second = c.in-Some-take_part.ensures in
    let frame = whole _ _ _ _ _ first.0 second.0 first.1 second.1 (grind arith) in
    let within : IsWithin c.args.limits.now c.in-Some.json.now c.in-Some-take_part.archive.now = (omega arith, omega arith) in
    let v = verdict c.args.limits.now c.args.bytes.now (Ok (c.in-Some.json, c.in-Some-take_part.archive)) (frame, within) in
    record { parts = v.0; short = v.1; trailing = v.2; too_long = v.3 }
