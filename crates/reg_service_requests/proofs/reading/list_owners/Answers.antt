use Rattle.reg_service_requests.proofs.Words.{ListsOwners, runs_asked, runs_refused}
use Rattle.reg_service_requests.proofs.ReadingServed.{owners_served}
use Rattle.reg_service_requests.proofs.reading.list_owners.Goals as goal

pub returns-in-Ok : goal.returns-in-Ok
returns-in-Ok g c =
    runs_asked g.S.Store {P = λ db list. ListsOwners c.args.found.now.id db list.items} c.in_ok-owners.owners _ c.args.work.now c.owners_of.new.self
    c.in_ok-owners.ensures
    (λ lists name. owners_served name c.args.found.now c.in_ok-owners.owners.items c.in-Ok.text _ (rw c.deref.ensures.value at c.in-Ok.ensures) lists)

pub returns : goal.returns
returns g c =
    runs_refused g.S.Store c.in_ok-owners.owners c.fail.result c.args.work.now c.owners_of.new.self c.fail.new.self c.fail.ensures.fails c.in_ok-owners.ensures c.fail.ensures.leaves
