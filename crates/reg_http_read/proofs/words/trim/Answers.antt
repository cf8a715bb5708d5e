use Rattle.std.proofs.Common.{◌∙◌, ap, reverse}
use Rattle.httparse.specs.Grammar.{trim_ows, skip_ows}
use Rattle.reg_http_read.proofs.words.trim.Goals as goal

pub returns : goal.returns
unfolding trim_ows
returns c = c.trim_end.ensures ∙ ap (λ x. reverse (skip_ows (reverse x))) c.trim_start.ensures
