use Rattle.reg_access.proofs.VersionLaw.{tells_release, tells_version}
use Rattle.reg_access.proofs.laws.version_law.Goals as goal

pub returns-clause-texts : goal.returns-clause-texts
returns-clause-texts c ids s db holds n account text = tells_version ids s db holds.stands n account text

pub returns-clause-releases : goal.returns-clause-releases
returns-clause-releases c ids s db holds n account text = tells_release ids s db holds.stands n account text
