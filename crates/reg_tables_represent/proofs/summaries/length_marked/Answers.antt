use Rattle.std.proofs.Common.{rules}
use Rattle.reg_tables_represent.proofs.summaries.length_marked.Goals as goal

pub returns : goal.returns
returns c = search rules
