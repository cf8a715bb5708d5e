use Rattle.std.proofs.Common.{◌∙◌}
use Rattle.reg_search.proofs.Matching.{found_is}
use Rattle.reg_search.proofs.needle.occurs_in.Goals as goal

pub returns : goal.returns
returns c = c.is_some.ensures ∙ found_is c.args.needle.now c.args.text.now c.find.result c.find.ensures
