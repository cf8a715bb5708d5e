use Rattle.reg_service.proofs.Joined.{tried}
use Rattle.reg_service.proofs.laws.tried_law.Goals as goal

pub returns : goal.returns
returns g c limits s entry es xs t mid new ran it clean goes_on = tried g.S.Store limits s t entry mid new es xs ran it clean goes_on
