use Rattle.std.proofs.Common.{arith}
use Rattle.reg_api_replies.proofs.Some.{reply_some}
use Rattle.reg_http_read.proofs.turns.send_reply.Goals as goal

pub returns-in-Ok-clause-some : goal.returns-in-Ok-clause-some
returns-in-Ok-clause-some g c =
    let sent = rw c.in-Ok.is at c.write_reply.ensures in
    let some = sent.some (reply_some c.args.reply.now c.args.close c.args.head_only) in
    omega (arith, some, sent.within)
