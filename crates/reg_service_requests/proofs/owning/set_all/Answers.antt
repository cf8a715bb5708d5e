use Rattle.reg_service_requests.proofs.Words.{sym, subst, runs_as}
use Rattle.reg_service_requests.specs.Owning.{GrantsAmong}
use Rattle.reg_service_requests.proofs.OwningIds.{texts_of}
use Rattle.reg_service_requests.proofs.owning.set_all.Goals as goal

pub returns-then-are_owners : goal.returns-then-are_owners
returns-then-are_owners g c =
    subst (λ b. GrantsAmong c.args.owners.now c.args.found.now g.S.Store b (texts_of c.args.logins.now) c.add_owners.result c.args.work.now c.add_owners.new.work) (sym c.if-are_owners.true)
    (runs_as g.S.Store c.add_owners.result c.args.work.now c.add_owners.new.work (λ it grants lists. grants) c.add_owners.ensures)

pub returns-else-are_owners : goal.returns-else-are_owners
returns-else-are_owners g c =
    subst (λ b. GrantsAmong c.args.owners.now c.args.found.now g.S.Store b (texts_of c.args.logins.now) c.remove_owners.result c.args.work.now c.remove_owners.new.work) (sym c.if-are_owners.false) c.remove_owners.ensures
