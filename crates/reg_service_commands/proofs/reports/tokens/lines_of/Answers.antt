use Rattle.reg_service_commands.proofs.Words.{◌+◌, drop, subst, arith, string_bytes}
use Rattle.std.proofs.lemmas.List.{drop_all}
use Rattle.reg_service_commands.proofs.Behind.{front_of}
use Rattle.reg_service_commands.proofs.TokenWalk.{Walked, ended, one_more}
use Rattle.reg_service_commands.proofs.reports.tokens.lines_of.Goals as goal

pub loop-token-preserved : goal.loop-token-preserved
loop-token-preserved c ts are =
    let i = c.loop-token.token-index in
    let tokens = c.args.tokens.now in
    let here = front_of tokens i c.token-item.result (omega arith) c.token-item.is in
    one_more c.args.accounts.now ts c.token-item.result (drop (i + 1) tokens) c.loop-token.left.now c.in_ok-left.left.now (string_bytes c.loop-token.report) (string_bytes c.push_next.new.report)
    (subst (λ l. Walked c.args.accounts.now ts l c.loop-token.left.now (string_bytes c.loop-token.report)) here (c.loop-token.invariant ts are)) c.in_ok-left.ensures

pub returns : goal.returns
returns c ts are =
    ended c.args.accounts.now ts c.loop-token.left.now (string_bytes c.loop-token.report)
    (subst (λ l. Walked c.args.accounts.now ts l c.loop-token.left.now (string_bytes c.loop-token.report)) (drop_all c.loop-token.token-index c.args.tokens.now (omega arith)) (c.loop-token.invariant ts are))
