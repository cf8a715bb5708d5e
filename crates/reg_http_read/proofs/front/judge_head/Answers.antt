use Rattle.reg_http_read.proofs.Judged.{refused_parts}
use Rattle.reg_http_read.proofs.front.judge_head.Goals as goal

pub returns-in-Err : goal.returns-in-Err
returns-in-Err c = refused_parts c.args.line.method.now _ _ _ c.in-Err.rule c.answers_head.result c.in-Err.ensures c.answers_head.ensures
