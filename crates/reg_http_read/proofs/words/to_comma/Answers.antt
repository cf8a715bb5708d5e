use Rattle.std.proofs.Common.{arith, sym, length}
use Rattle.std.proofs.lemmas.List.Sums.{position_or_len_is}
use Rattle.reg_http_read.proofs.Lists.{is_comma}
use Rattle.reg_http_read.proofs.words.to_comma.Goals as goal

pub returns : goal.returns
returns c =
    sym (position_or_len_is is_comma c.args.rest.now (length c.args.rest.now) 0 (omega arith)
    (λ k less. c.loop-i.invariant k (omega arith)) (λ more. absurd (omega arith)))
