use Rattle.std.proofs.Common.{rules}
use Rattle.reg_names.proofs.name.is_name.Goals as goal

pub returns-then-is_ascii_alphabetic : goal.returns-then-is_ascii_alphabetic
returns-then-is_ascii_alphabetic c = search rules
