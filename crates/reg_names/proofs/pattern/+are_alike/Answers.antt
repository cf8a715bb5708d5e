use Rattle.reg_names.proofs.Words.{arith, rules, common_steps}
use Rattle.reg_names.proofs.pattern.+are_alike.Goals as goal

pub returns-then-canon_byte : goal.returns-then-canon_byte
returns-then-canon_byte t c = grind (arith, common_steps)

pub returns-else-canon_byte : goal.returns-else-canon_byte
returns-else-canon_byte t c = search rules
