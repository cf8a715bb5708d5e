-- The test is the meaning, for what is a pattern.
use Rattle.std.proofs.Common.{rules}
use Rattle.reg_names.proofs.PatternFacts.{covers-says}
use Rattle.reg_names.proofs.pattern.covers.Goals as goal

pub returns-then-has_star-clause-meaning : goal.returns-then-has_star-clause-meaning
returns-then-has_star-clause-meaning c = covers-says c.begins_like.result c.args.pattern.now c.as_str.result.now c.args.name.now c.as_str.ensures.pattern c.as_str.ensures.value (search rules)

pub returns-else-has_star-clause-meaning : goal.returns-else-has_star-clause-meaning
returns-else-has_star-clause-meaning c = covers-says c.are_alike.result c.args.pattern.now c.as_str.result.now c.args.name.now c.as_str.ensures.pattern c.as_str.ensures.value (search rules)
