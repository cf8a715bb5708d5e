use Rattle.std.proofs.Common.{sym, ◌∙◌}
use Rattle.reg_access.proofs.Questions.{asks_nothing}
use Rattle.reg_service_steps.proofs.Names.{named, unnamed}
use Rattle.reg_service_steps.proofs.Running.{asks_as}
use Rattle.reg_service_steps.proofs.naming.find_named.Goals as goal

pub returns-in-Some : goal.returns-in-Some
returns-in-Some g c =
    asks_as g.S.Store c.crate_by_canon.result c.args.work.now c.crate_by_canon.new.self
    (λ found finds. named c.args.text.now c.in-Some.name _ found (sym c.parse_name.ensures ∙ c.in-Some.is) (rw c.canon.ensures at finds.1))
    c.crate_by_canon.ensures

pub returns-in-None : goal.returns-in-None
returns-in-None g c =
    asks_nothing g.S.Store _ c.args.work.now c.requires.goes_on c.requires.at_work
    (unnamed c.args.text.now _ (sym c.parse_name.ensures ∙ c.in-None.is))
