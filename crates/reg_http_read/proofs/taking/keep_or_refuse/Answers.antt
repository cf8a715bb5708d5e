use Rattle.reg_http_read.proofs.Common.{subst, sym, IsHeadAt, facts_of}
use Rattle.reg_http_read.proofs.Requests.{no_room_kept}
use Rattle.reg_http_read.proofs.taking.keep_or_refuse.Goals as goal

pub returns-in-Ok : goal.returns-in-Ok
returns-in-Ok c limits bytes at = subst (IsHeadAt limits bytes) (sym c.in-Ok.ensures) at

pub returns-in-Err : goal.returns-in-Err
returns-in-Err c limits bytes at = no_room_kept limits bytes (facts_of c.args.head.now) at _ c.is_head_only.ensures
