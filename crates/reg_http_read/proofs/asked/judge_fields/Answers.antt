use Rattle.reg_http_read.proofs.Common.{◌≡◌, Err, Ok, arith, map, sym, subst, header_parts, H4, H5, greatest_body, IsAsked}
use Rattle.std.proofs.lemmas.List.{length-map}
use Rattle.reg_http_read.specs.Fields as spec
use Rattle.reg_http_read.proofs.Judged.{coding_judged, hosts_judged, large_judged, length_judged, many_judged, no_length_judged, past_counts}
use Rattle.reg_http_read.proofs.asked.judge_fields.Goals.{After-body_length}
use Rattle.reg_http_read.proofs.asked.judge_fields.Goals as goal

pub returns-then-fields-limits : goal.returns-then-fields-limits
returns-then-fields-limits c =
    many_judged c.args.limits.now.fields (greatest_body c.args.limits.now) c.args.minor (map header_parts c.args.fields.now)
    (omega (arith, length-map c.args.fields.now header_parts))

pub returns-then-not-are_hosts_fit : goal.returns-then-not-are_hosts_fit
returns-then-not-are_hosts_fit c =
    hosts_judged c.args.limits.now.fields (greatest_body c.args.limits.now) c.args.minor (map header_parts c.args.fields.now)
    (omega (arith, length-map c.args.fields.now header_parts)) (sym c.if-not-are_hosts_fit.ensures)

pub returns-then-count_named-gt0 : goal.returns-then-count_named-gt0
returns-then-count_named-gt0 c =
    coding_judged c.args.limits.now.fields (greatest_body c.args.limits.now) c.args.minor (map header_parts c.args.fields.now)
    (omega (arith, length-map c.args.fields.now header_parts)) (sym c.if-not-are_hosts_fit.ensures) (omega (arith, c.count_named.ensures))

past : (c : After-body_length) → let fields = map header_parts c.args.fields.now in
    spec.judge_fields c.args.limits.now.fields (greatest_body c.args.limits.now) c.args.minor fields
    ≡ spec.with_length c.args.limits.now.fields (greatest_body c.args.limits.now) c.args.minor fields (spec.body_length fields)
past c =
    past_counts c.args.limits.now.fields (greatest_body c.args.limits.now) c.args.minor (map header_parts c.args.fields.now)
    (omega (arith, length-map c.args.fields.now header_parts)) (sym c.if-not-are_hosts_fit.ensures) (omega (arith, c.count_named.ensures))

pub returns-in_default : goal.returns-in_default
returns-in_default c =
    subst (IsAsked (Err H4)) (sym (past (goal.at.returns-in_default c).After-body_length))
    (no_length_judged c.args.limits.now.fields (greatest_body c.args.limits.now) c.args.minor (map header_parts c.args.fields.now) _
    c.in_default.ensures)

pub returns-then-body_len-greatest_body : goal.returns-then-body_len-greatest_body
returns-then-body_len-greatest_body c =
    subst (IsAsked (Err H5)) (sym (past (goal.at.returns-then-body_len-greatest_body c).After-body_length))
    (large_judged c.args.limits.now.fields (greatest_body c.args.limits.now) c.args.minor (map header_parts c.args.fields.now)
    c.in-Some.body_len _ c.in-Some.ensures (omega (arith, c.greatest_body.ensures.value)))

pub returns : goal.returns
returns c =
    subst (IsAsked (Ok c.ask.result)) (sym (past (goal.at.returns c).After-body_length))
    (length_judged c.args.limits.now.fields (greatest_body c.args.limits.now) c.args.minor (map header_parts c.args.fields.now)
    c.ask.result c.in-Some.body_len _ (omega (arith, c.greatest_body.ensures.value, c.greatest_body.ensures.small)) c.in-Some.ensures
    (omega (arith, c.greatest_body.ensures.value)) c.ask.ensures)
