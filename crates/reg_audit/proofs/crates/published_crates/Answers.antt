use Rattle.reg_audit.proofs.Words.{map, rules, IsFromIterResult, nat_cmp, IfOk-weaker}
use Rattle.reg_audit.proofs.Sets.{has_each}
use Rattle.reg_audit.proofs.crates.published_crates.Goals as goal

pub returns : goal.returns
returns c = IfOk-weaker c.collect.result (IsFromIterResult nat_cmp (map (λ v. v.crate_id) c.args.versions.now)) _ (has_each (λ v. v.crate_id) c.args.versions.now) (search rules)
