use Rattle.std.proofs.Common.{rules, tests}
use Rattle.std.proofs.lemmas.Iterator.{YieldsList-from_slice}
use Rattle.std.proofs.lemmas.Iterator.Search.{all_from_yields_List}
use Rattle.reg_service_requests.proofs.owning.are_all_named.Goals as goal

pub returns : goal.returns
returns c = all_from_yields_List _ _ _ _ c.all.ensures.ran (YieldsList-from_slice c.args.owners.now cc) (λ x b q k. search (rules, tests))
