use Rattle.std.proofs.Common.{[], ◌++◌, ◌+◌, Ok, Err}
use Rattle.std.proofs.lemmas.Result.{err_from_is_err_and}
use Rattle.reg_api_replies.proofs.Joined.{pile_sent, pile_stopped, piles_behind, stopped_first}
use Rattle.reg_api_replies.proofs.sending.write_parts.Goals as goal

pub returns-in_err-used : goal.returns-in_err-used
returns-in_err-used g c =
    let p = err_from_is_err_and c.from_residual.result c.from_residual.ensures.1 in
    rw (p.1, p.2)
    (stopped_first c.in_err-used.field-0.0 c.args.head.now c.args.body.now c.args.writes _ _ (rw (c.new-pile.ensures, c.as_bytes.ensures) at c.in_err-used.ensures))

pub returns-in_err-more : goal.returns-in_err-more
returns-in_err-more g c =
    let p = err_from_is_err_and c.from_residual-in_err-more.result c.from_residual-in_err-more.ensures.1 in
    rw (p.1, p.2)
    (pile_stopped c.in_err-more.field-0.0 [] c.args.head.now c.args.body.now c.put.new.self c.args.writes c.in_ok-used.used _ _ _ (rw (c.new-pile.ensures, c.as_bytes.ensures) at c.in_ok-used.ensures) c.in_err-more.ensures)

pub returns-in_err-last : goal.returns-in_err-last
returns-in_err-last g c =
    let p = err_from_is_err_and c.from_residual-in_err-last.result c.from_residual-in_err-last.ensures.1 in
    let both = piles_behind [] c.args.head.now c.args.body.now c.put.new.self c.put-2.new.self c.args.writes c.in_ok-used.used c.in_ok-more.more _ _ _ (rw (c.new-pile.ensures, c.as_bytes.ensures) at c.in_ok-used.ensures) c.in_ok-more.ensures in
    rw (p.1, p.2)
    (pile_sent [] (c.args.head.now ++ c.args.body.now) c.put-2.new.self c.args.writes (c.in_ok-used.used + c.in_ok-more.more) _ _ _ (Err c.in_err-last.field-0.0) both c.in_err-last.ensures.sends)

pub returns : goal.returns
returns g c =
    let both = piles_behind [] c.args.head.now c.args.body.now c.put.new.self c.put-2.new.self c.args.writes c.in_ok-used.used c.in_ok-more.more _ _ _ (rw (c.new-pile.ensures, c.as_bytes.ensures) at c.in_ok-used.ensures) c.in_ok-more.ensures in
    pile_sent [] (c.args.head.now ++ c.args.body.now) c.put-2.new.self c.args.writes (c.in_ok-used.used + c.in_ok-more.more) _ _ _ (Ok c.in_ok-last.last) both c.in_ok-last.ensures.sends
