use Rattle.reg_api_requests.proofs.Releases.{stem_of-IsStem}
use Rattle.reg_api_requests.proofs.laws.stem_law.Goals as goal

pub returns : goal.returns
returns c = stem_of-IsStem
