use Rattle.std.proofs.Common.{rules}
use Rattle.reg_manifest.specs.Metadata.{checked, keeps_rules}
use Rattle.reg_manifest.proofs.metadata.checked_name.Goals as goal

pub returns-then-not-branch-clause-meaning : goal.returns-then-not-branch-clause-meaning
unfolding checked keeps_rules
returns-then-not-branch-clause-meaning c = search rules
