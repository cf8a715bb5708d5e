use Rattle.std.proofs.Common.{rules}
use Rattle.reg_http_read.proofs.fields.body_length.Goals as goal

pub returns-then-same-count_named : goal.returns-then-same-count_named
returns-then-same-count_named c = search rules
