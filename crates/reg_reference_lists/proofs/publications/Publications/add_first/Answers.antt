use Rattle.std.proofs.Common.{rules}
use Rattle.reg_reference_lists.proofs.publications.Publications.add_first.Goals as goal

pub returns-clause-owner : goal.returns-clause-owner
returns-clause-owner c = search rules
