use Rattle.std.proofs.Common.{rules}
use Rattle.reg_search.proofs.needle.is_match.Goals as goal

pub returns-in-Text : goal.returns-in-Text
returns-in-Text c = search rules
