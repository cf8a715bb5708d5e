use Rattle.std.proofs.Common.{◌<◌, arith}
use Rattle.reg_http_read.proofs.Cuts.{lines_within, longest_front, none_without_lines, unjudged_cut}
use Rattle.reg_http_read.proofs.Read.{read_from}
use Rattle.reg_http_read.proofs.head.read_head.Goals as goal

pub read_unjudged-requires : goal.read_unjudged-requires
read_unjudged-requires c = λ n line judged.
    none_without_lines c.args.limits.now.head c.min.result c.last_line-end.result c.args.bytes.now c.min.ensures c.if-end-eq0.true
    (rw c.split_at.ensures.front at c.last_line-end.ensures.last) n line

pub read_unjudged-requires-in-More : goal.read_unjudged-requires-in-More
read_unjudged-requires-in-More c =
    let some : 0 < c.last_line-end.result = omega arith in
    let lines = rw c.split_at.ensures.front at c.last_line-end.ensures in
    let judged = rw (c.split_at-2.ensures.front, c.in-More.is) at c.in_ok-read.ensures in
    unjudged_cut c.args.limits.now.head c.last_line-end.result c.args.bytes.now
    (longest_front c.args.limits.now.head c.min.result c.last_line-end.result c.args.bytes.now c.min.ensures some lines.within (lines.ends some))
    (lines_within c.args.limits.now.head c.min.result c.last_line-end.result c.args.bytes.now c.min.ensures lines.last)
    judged.0 judged.1

pub returns-in_default-clause-read : goal.returns-in_default-clause-read
returns-in_default-clause-read c =
    let some : 0 < c.last_line-end.result = omega arith in
    let lines = rw c.split_at.ensures.front at c.last_line-end.ensures in
    let judged = rw c.split_at-2.ensures.front at c.in_ok-read.ensures in
    read_from c.args.limits.now c.last_line-end.result c.args.bytes.now
    (longest_front c.args.limits.now.head c.min.result c.last_line-end.result c.args.bytes.now c.min.ensures some lines.within (lines.ends some))
    (lines_within c.args.limits.now.head c.min.result c.last_line-end.result c.args.bytes.now c.min.ensures lines.last)
    c.in_ok-read.read judged c.in_default.not-More
