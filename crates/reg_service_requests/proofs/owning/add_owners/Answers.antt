use Rattle.reg_service_requests.proofs.Words.{rules, true, DoesOwning, FindsAllKnown, Updates, runs_after, runs_asked}
use Rattle.reg_service_requests.proofs.OwningDone.{owning_denied, owning_done}
use Rattle.reg_service_requests.proofs.OwningIds.{joins, may_not_join, texts_of}
use Rattle.reg_service_requests.proofs.owning.add_owners.Goals as goal

pub returns-in-Some : goal.returns-in-Some
returns-in-Some g c =
    let logins = texts_of c.args.logins.now in
    let did : Updates g.S.Store c.find_all_known.new.work c.change_owners.new.work c.change_owners.result (DoesOwning true c.args.found.now.id c.in-Some.accounts.items) = search rules in
    runs_after g.S.Store {P = FindsAllKnown logins} {R = DoesOwning true c.args.found.now.id c.in-Some.accounts.items} c.in_ok-accounts.field-0 c.change_owners.result c.args.work.now c.find_all_known.new.work c.change_owners.new.work c.in_ok-accounts.ensures did
    (λ it finds does name limits digest lets is. owning_done limits digest true name logins _ lets c.args.found.now is c.in-Some.accounts _ it (joins logins _ c.args.found.now.id c.in-Some.accounts (rw c.in-Some.is at finds)) does)

pub returns-in-None : goal.returns-in-None
returns-in-None g c =
    let logins = texts_of c.args.logins.now in
    runs_asked g.S.Store {P = FindsAllKnown logins} c.in_ok-accounts.field-0 _ c.args.work.now c.find_all_known.new.work c.in_ok-accounts.ensures
    (λ finds name limits digest lets is. owning_denied limits digest true name logins _ lets c.args.found.now is _ (may_not_join logins _ c.args.found.now.id (rw c.in-None.is at finds)))
