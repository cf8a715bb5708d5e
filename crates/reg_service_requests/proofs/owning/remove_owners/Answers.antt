use Rattle.reg_service_requests.proofs.Words.{Ok, Err, rules, false, AreLeaving, DoesOwning, Updates, runs_as, runs_nothing, runs_stopped}
use Rattle.reg_service_requests.proofs.OwningDone.{owning_denied, owning_done}
use Rattle.reg_service_requests.proofs.OwningIds.{leaves, may_not_leave, texts_of}
use Rattle.reg_service_requests.proofs.owning.remove_owners.Goals as goal

pub returns-in-Ok-Ok : goal.returns-in-Ok-Ok
returns-in-Ok-Ok g c =
    let id = c.args.found.now.id in
    let logins = texts_of c.args.logins.now in
    let may : AreLeaving c.args.owners.now logins (Ok c.in-Ok-Ok.accounts) = search rules in
    let did : Updates g.S.Store c.args.work.now c.change_owners.new.work c.change_owners.result (DoesOwning false id c.in-Ok-Ok.accounts.items) = search rules in
    runs_as g.S.Store c.change_owners.result c.args.work.now c.change_owners.new.work
    (λ it does lists name limits digest lets is. owning_done limits digest false name logins _ lets c.args.found.now is c.in-Ok-Ok.accounts _ it (leaves logins _ id c.args.owners.now lists c.in-Ok-Ok.accounts may) does) did

pub returns-in-Ok-Err : goal.returns-in-Ok-Err
returns-in-Ok-Err g c =
    let id = c.args.found.now.id in
    let logins = texts_of c.args.logins.now in
    let why : AreLeaving c.args.owners.now logins (Err c.in-Ok-Err.rule) = search rules in
    runs_nothing g.S.Store _ c.args.work.now c.requires.goes_on c.requires.at_work
    (λ lists name limits digest lets is. owning_denied limits digest false name logins _ lets c.args.found.now is c.in-Ok-Err.rule (may_not_leave logins _ id c.args.owners.now lists c.in-Ok-Err.rule why))

pub returns-in-Err : goal.returns-in-Err
returns-in-Err g c = runs_stopped g.S.Store c.fail.result c.args.work.now c.fail.new.self c.fail.ensures.fails c.fail.ensures.leaves
