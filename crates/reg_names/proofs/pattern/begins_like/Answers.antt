use Rattle.std.proofs.Common.{◌∙◌}
use Rattle.reg_names.proofs.PatternFacts.{alike_front}
use Rattle.reg_names.proofs.pattern.begins_like.Goals as goal

pub returns-then-prefix-name : goal.returns-then-prefix-name
returns-then-prefix-name c = c.are_alike.ensures ∙ alike_front c.args.prefix.now c.args.name.now
