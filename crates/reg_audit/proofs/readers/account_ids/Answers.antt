use Rattle.reg_audit.proofs.Words.{map, rules, IsFromIterResult, nat_cmp, IfOk-weaker}
use Rattle.reg_audit.proofs.Sets.{has_each}
use Rattle.reg_audit.proofs.readers.account_ids.Goals as goal

pub returns : goal.returns
returns c = IfOk-weaker c.collect.result (IsFromIterResult nat_cmp (map (λ it. it.id) c.args.rows.now.accounts.items)) _ (has_each (λ it. it.id) c.args.rows.now.accounts.items) (search rules)
