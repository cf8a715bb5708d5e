use Rattle.std.proofs.Common.{false, true, refl, ◌∙◌}
use Rattle.reg_http_read.proofs.FirstBytes.{both_found}
use Rattle.reg_http_read.proofs.method.begins_with.Goals as goal

pub returns-then-starts_with : goal.returns-then-starts_with
returns-then-starts_with c =
    both_found c.min.result c.args.word.now c.args.bytes.now c.args.later.now c.split_at.result.0.now c.split_at.result.1.now true _
    c.min.ensures c.split_at.ensures.front c.split_at.ensures.back c.if-starts_with.ensures.value c.starts_with-then-starts_with.ensures.value

pub returns-else-starts_with : goal.returns-else-starts_with
returns-else-starts_with c =
    c.if-starts_with.false
    ∙ both_found c.min.result c.args.word.now c.args.bytes.now c.args.later.now c.split_at.result.0.now c.split_at.result.1.now false _
    c.min.ensures c.split_at.ensures.front c.split_at.ensures.back c.if-starts_with.ensures.value refl
